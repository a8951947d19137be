-- Why an operand isn't linked.
use Rattle.std.specs.Prelude.{◌≡◌, ℕ, ◌<◌, Bool, false, List, length, Some, ⊤, All, slice_get}
use Rattle.row_defs.specs.Rows.{Row}
use Rattle.dia_edge.specs.Counts.{TellsCount}
use Rattle.block_pool.specs.Handles.{HandValue}
use Rattle.exchange.specs.Limits.{most_dealt}
use Rattle.exchange.specs.declared.scatter_err.ScatterErr.{ScatterErr}
use Rattle.exchange.specs.declared.scatter_err.ScatterErr.TheVariants as deals
use Rattle.scatter.specs.declared.feed_err.FeedErr.{FeedErr}
use Rattle.scatter.specs.declared.feed_err.FeedErr.TheVariants as feeds
use Rattle.scatter.specs.declared.net_err.NetErr.{NetErr}
use Rattle.scatter.specs.declared.net_err.NetErr.TheVariants as nets
use Rattle.scatter.specs.Told.{Tells, SomeHit}
use Rattle.link.specs.declared.link_err.LinkErr.{LinkErr}
use Rattle.link.specs.declared.link_err.LinkErr.TheVariants.{Link, LinkBytes, Disk, Damaged, NoMemory, TooManyRows}

-- a sender has more rows than may be dealt out
pub record HasTooMany (sent : List (List Row)) : Type 0 where
  pub rank : ℕ
  pub rows : List Row
  pub at : slice_get sent rank ≡ Some rows
  pub many : most_dealt < length rows

-- Why an operand isn't linked: the rows that are sent, if they are told, whether the net tells, its counts of faults before
-- and after, and the hands before and after.
abbrev pub LinkRefused : List (List Row) → Type 0 → Bool → ℕ → ℕ → List HandValue → List HandValue → LinkErr → Type 0
LinkRefused sent told carries faults faults_now hands now (Link count) = TellsCount count faults faults_now
LinkRefused sent told carries faults faults_now hands now (LinkBytes at) = carries ≡ false
LinkRefused sent told carries faults faults_now hands now (Disk count) = SomeHit hands now count
LinkRefused sent told carries faults faults_now hands now Damaged = All Tells hands → ⊥
LinkRefused sent told carries faults faults_now hands now NoMemory = ⊤
LinkRefused sent told carries faults faults_now hands now TooManyRows = told → HasTooMany sent

-- what a phase's fault is for a link
abbrev pub fault_of_phase : FeedErr ScatterErr → LinkErr
fault_of_phase (feeds.Sink (deals.Disk count)) = Disk count
fault_of_phase (feeds.Sink deals.NoMemory) = NoMemory
fault_of_phase (feeds.Sink deals.TooManyRows) = TooManyRows
fault_of_phase (feeds.Disk count) = Disk count
fault_of_phase feeds.Damaged = Damaged
fault_of_phase feeds.NoMemory = NoMemory

-- what a net's is
abbrev pub fault_of_net : NetErr → LinkErr
fault_of_net (nets.Link count) = Link count
fault_of_net (nets.LinkBytes at) = LinkBytes at
fault_of_net (nets.Disk count) = Disk count
fault_of_net nets.Damaged = Damaged
fault_of_net nets.NoMemory = NoMemory

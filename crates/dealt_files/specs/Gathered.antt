-- What it comes to that rows are dealt out and written to files.
use Rattle.std.specs.Prelude.{◌≡◌, ◌<◌, ℕ, Bool, false, true, List, All, ⊤, length}
use Rattle.row_defs.specs.Limits.{most_rows}
use Rattle.row_defs.specs.Operands.{Operand}
use Rattle.dia_edge.specs.Counts.{TellsCount}
use Rattle.block_pool.specs.Handles.{HandValue}
use Rattle.scatter.specs.Lines.{Lines}
use Rattle.scatter.specs.Told.{Tells, SomeHit}
use Rattle.scatter.specs.declared.feed_err.FeedErr.{FeedErr}
use Rattle.scatter.specs.declared.feed_err.FeedErr.TheVariants as feeds
use Rattle.feed_actions.specs.declared.counter.TooManyRows.{TooManyRows}
use Rattle.link.specs.declared.link_err.LinkErr.{LinkErr}
use Rattle.link.specs.declared.link_err.LinkErr.TheVariants as links
use Rattle.arrival_files.specs.declared.receive_err.ReceiveErr.{ReceiveErr}
use Rattle.arrival_files.specs.declared.receive_err.ReceiveErr.TheVariants as receives
use Rattle.dealing.specs.Operands.{arriving_all}
use Rattle.dealt_files.specs.declared.deal_err.DealErr.{DealErr}
use Rattle.dealt_files.specs.declared.deal_err.DealErr.TheVariants as errs

-- Why there are no files of these operands' rows: whether the net tells, its counts of faults before and after, and the hands
-- before and after.
abbrev pub GatherRefused : Lines → List Operand → Bool → ℕ → ℕ → List HandValue → List HandValue → DealErr → Type 0
GatherRefused lines operands carries faults faults_now hands now (errs.Link count) = TellsCount count faults faults_now
GatherRefused lines operands carries faults faults_now hands now (errs.LinkBytes at) = carries ≡ false
GatherRefused lines operands carries faults faults_now hands now (errs.Disk count) = SomeHit hands now count
GatherRefused lines operands carries faults faults_now hands now errs.Damaged = carries ≡ true → All Tells hands → ⊥
GatherRefused lines operands carries faults faults_now hands now errs.NoMemory = ⊤
GatherRefused lines operands carries faults faults_now hands now errs.TooManyRows = carries ≡ true → All Tells hands → most_rows < length (arriving_all lines operands)

-- why the rows aren't counted, with the hands before and after
abbrev pub CountFault : Lines → List Operand → List HandValue → List HandValue → FeedErr TooManyRows → Type 0
CountFault lines operands hands now (feeds.Sink e) = All Tells hands → most_rows < length (arriving_all lines operands)
CountFault lines operands hands now (feeds.Disk count) = SomeHit hands now count
CountFault lines operands hands now feeds.Damaged = All Tells hands → ⊥
CountFault lines operands hands now feeds.NoMemory = ⊤

-- what a fault of the count is
abbrev pub fault_of_count : FeedErr TooManyRows → DealErr
fault_of_count (feeds.Sink e) = errs.TooManyRows
fault_of_count (feeds.Disk count) = errs.Disk count
fault_of_count feeds.Damaged = errs.Damaged
fault_of_count feeds.NoMemory = errs.NoMemory

-- what a link's is
abbrev pub fault_of_link : LinkErr → DealErr
fault_of_link (links.Link count) = errs.Link count
fault_of_link (links.LinkBytes at) = errs.LinkBytes at
fault_of_link (links.Disk count) = errs.Disk count
fault_of_link links.Damaged = errs.Damaged
fault_of_link links.NoMemory = errs.NoMemory
fault_of_link links.TooManyRows = errs.TooManyRows

-- what it is that nothing was received
abbrev pub fault_of_receiving : ReceiveErr → DealErr
fault_of_receiving (receives.Disk count) = errs.Disk count
fault_of_receiving receives.Damaged = errs.Damaged
fault_of_receiving receives.NoMemory = errs.NoMemory
fault_of_receiving receives.TooManyRows = errs.TooManyRows

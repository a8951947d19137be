-- Why operands aren't dealt out.
use Rattle.std.specs.Prelude.{◌≡◌, ℕ, Bool, false, List, ⊤, All}
use Rattle.dia_edge.specs.Counts.{TellsCount}
use Rattle.block_pool.specs.Handles.{HandValue}
use Rattle.scatter.specs.Told.{Tells, SomeHit}
use Rattle.link.specs.declared.link_err.LinkErr.{LinkErr}
use Rattle.link.specs.declared.link_err.LinkErr.TheVariants.{Link, LinkBytes, Disk, Damaged, NoMemory, TooManyRows}

-- Why: whether the net tells, its counts of faults before and after, and the hands before and after.
abbrev pub DealRefused : Bool → ℕ → ℕ → List HandValue → List HandValue → LinkErr → Type 0
DealRefused carries faults faults_now hands now (Link count) = TellsCount count faults faults_now
DealRefused carries faults faults_now hands now (LinkBytes at) = carries ≡ false
DealRefused carries faults faults_now hands now (Disk count) = SomeHit hands now count
DealRefused carries faults faults_now hands now Damaged = All Tells hands → ⊥
DealRefused carries faults faults_now hands now NoMemory = ⊤
DealRefused carries faults faults_now hands now TooManyRows = All Tells hands → ⊥

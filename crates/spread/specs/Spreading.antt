-- What spreading a file over all workers comes to.
use Rattle.std.specs.Prelude.{◌≡◌, ◌<◌, ◌≤◌, ℕ, Bool, true, false, List, Some, All, ⊤, length, map}
use Rattle.std.specs.List.{AllZip}
use Rattle.row_defs.specs.Limits.{most_rows}
use Rattle.dia_edge.specs.Counts.{TellsCount}
use Rattle.block_pool.specs.Handles.{HandValue}
use Rattle.dia_file.specs.Cuts.{rows_of_files}
use Rattle.dia_file.specs.Files.{FileValue, IsFileOf}
use Rattle.scatter.specs.declared.net_err.NetErr.{NetErr}
use Rattle.scatter.specs.declared.net_err.NetErr.TheVariants as nets
use Rattle.scatter.specs.Lines.{Lines, Sets}
use Rattle.scatter.specs.Phases.{pools_of}
use Rattle.scatter.specs.Told.{Tells, SomeHit}
use Rattle.arrival_files.specs.declared.receive_err.ReceiveErr.{ReceiveErr}
use Rattle.arrival_files.specs.declared.receive_err.ReceiveErr.TheVariants as receives
use Rattle.spread.specs.declared.spread_err.SpreadErr.{SpreadErr}
use Rattle.spread.specs.declared.spread_err.SpreadErr.TheVariants.{Link, LinkBytes, Disk, Damaged, NoMemory, TooManyRows}

-- The line of this number has one part per worker, of its hand's pool. Where the net tells what it carried and the disks tell,
-- joined by rank these have the rows of the file.
pub record IsSpread (f : FileValue) (carries : Bool) (hands : List HandValue) (lines : Lines) (n : ℕ) (now : Lines) : Type 0 where
  pub parts : List FileValue
  pub own : AllZip IsFileOf (pools_of hands) parts
  pub rows : carries ≡ true → All Tells hands → rows_of_files parts ≡ f.rows
  pub few : length (rows_of_files parts) ≤ most_rows
  pub line : Sets lines n (Some (record { kinds = f.kinds; parts = map (λ (part : FileValue). Some part) parts })) now

-- Why a file doesn't become a line: whether the net tells, its counts of faults before and after, and the hands before and after.
abbrev pub SpreadRefused : FileValue → Bool → ℕ → ℕ → List HandValue → List HandValue → SpreadErr → Type 0
SpreadRefused f carries faults faults_now hands now (Link count) = TellsCount count faults faults_now
SpreadRefused f carries faults faults_now hands now (LinkBytes at) = carries ≡ false
SpreadRefused f carries faults faults_now hands now (Disk count) = SomeHit hands now count
SpreadRefused f carries faults faults_now hands now Damaged = carries ≡ true → All Tells hands → ⊥
SpreadRefused f carries faults faults_now hands now NoMemory = ⊤
SpreadRefused f carries faults faults_now hands now TooManyRows = carries ≡ true → All Tells hands → most_rows < length f.rows

-- what a net's fault is for a file that is spread
abbrev pub fault_of_net : NetErr → SpreadErr
fault_of_net (nets.Link count) = Link count
fault_of_net (nets.LinkBytes at) = LinkBytes at
fault_of_net (nets.Disk count) = Disk count
fault_of_net nets.Damaged = Damaged
fault_of_net nets.NoMemory = NoMemory

-- what it is that nothing was received
abbrev pub fault_of_receiving : ReceiveErr → SpreadErr
fault_of_receiving (receives.Disk count) = Disk count
fault_of_receiving receives.Damaged = Damaged
fault_of_receiving receives.NoMemory = NoMemory
fault_of_receiving receives.TooManyRows = TooManyRows

-- How the errors of the layers below end a call, and what a fault tells.
use Rattle.std.specs.Prelude.{◌≡◌, ℕ, Bool, true, List, Option, None, Some, Result, Ok, Err}
use Rattle.dia_edge.specs.Counts.{HasRisen, TellsCount}
use Rattle.script_read.specs.declared.reader.ReadErr as readings
use Rattle.script_read.specs.declared.reader.ReadErr.TheVariants as reading_errors
use Rattle.script_run.specs.declared.run_err.RunErr.{RunErr}
use Rattle.script_run.specs.declared.run_err.RunErr.TheVariants as run_errors
use Rattle.job_words.specs.declared.fault.TopFault.{TopFault}
use Rattle.job_words.specs.declared.fault.TopFault.TheVariants as faults
use Rattle.thrill_top.specs.declared.read.BytesErr.{BytesErr}
use Rattle.thrill_top.specs.declared.read.BytesErr.TheVariants as bytes_errors

-- the fault for the bytes of a script, for a script, and for a run
abbrev pub bytes_fault : List ℕ → BytesErr → TopFault
bytes_fault name bytes_errors.Missing = faults.Missing name
bytes_fault name (bytes_errors.Read count) = faults.ReadFault count
bytes_fault name bytes_errors.NoMemory = faults.NoMemory

abbrev pub script_fault : readings.ReadErr → TopFault
script_fault (reading_errors.Bad line cause) = faults.Script line cause
script_fault reading_errors.NoMemory = faults.NoMemory

abbrev pub run_fault : RunErr → TopFault
run_fault (run_errors.Missing name) = faults.Missing name
run_fault (run_errors.LineTooLong name line) = faults.LineTooLong name line
run_fault (run_errors.InputTooLong name) = faults.InputTooLong name
run_fault (run_errors.PoolTooSmall frames need) = faults.PoolTooSmall frames need
run_fault (run_errors.TooManyRows line) = faults.TooManyRows line
run_fault (run_errors.Read count) = faults.ReadFault count
run_fault (run_errors.Write count) = faults.WriteFault count
run_fault (run_errors.Disk count) = faults.DiskFault count
run_fault run_errors.Damaged = faults.Damaged
run_fault run_errors.NoMemory = faults.NoMemory

-- how a run that answered so ends
abbrev pub run_end : {T : Type 0} → Result T RunErr → Option TopFault
run_end (Ok done) = None
run_end (Err e) = Some (run_fault e)

-- a fault of the shelf tells the shelf's count now, which rose
abbrev pub TellsBytes : BytesErr → ℕ → ℕ → Type 0
TellsBytes (bytes_errors.Read count) before now = TellsCount count before now
TellsBytes _ before now = Unit {0}

-- the same of the fault for a script that wasn't read
abbrev pub TellsRead : TopFault → ℕ → ℕ → Type 0
TellsRead (faults.ReadFault count) before now = TellsCount count before now
TellsRead _ before now = Unit {0}

-- the counts of faults of the shelf, of `out` and of the disk
pub record Counts : Type 0 where
  pub shelf : ℕ
  pub out : ℕ
  pub disk : ℕ

-- what a fault tells: one of the shelf or of `out` its count now, which rose, and one of the disk that the disk's count rose;
-- no block is damaged where the disk tells
abbrev pub TellsFault : TopFault → Bool → Counts → Counts → Type 0
TellsFault (faults.ReadFault count) tells before now = TellsCount count before.shelf now.shelf
TellsFault (faults.WriteFault count) tells before now = TellsCount count before.out now.out
TellsFault (faults.DiskFault count) tells before now = HasRisen before.disk now.disk
TellsFault faults.Damaged tells before now = tells ≡ true → ⊥
TellsFault _ tells before now = Unit {0}

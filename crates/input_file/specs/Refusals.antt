-- Why an input doesn't become a file.
use Rattle.std.specs.Prelude.{◌≡◌, ℕ, List, Option, Some}
use Rattle.row_defs.specs.Inputs.{missing, line_too_long, input_too_long, failure_of_input}
use Rattle.dia_edge.specs.Counts.{TellsCount}
use Rattle.block_pool.specs.Handles.{HandValue, HasHit, Follows}
use Rattle.pool_core.specs.declared.refusals.FrameErr.{FrameErr}
use Rattle.pool_core.specs.declared.refusals.FrameErr.TheVariants as frame
use Rattle.dia_lines.specs.declared.input.InputErr.{InputErr}
use Rattle.dia_lines.specs.declared.input.InputErr.TheVariants as input
use Rattle.input_file.specs.declared.refusals.ReadFileErr.{ReadFileErr}
use Rattle.input_file.specs.declared.refusals.ReadFileErr.TheVariants.{Missing, LineTooLong, InputTooLong, Read, Disk, NoMemory}

abbrev pub file_refusal : InputErr FrameErr → ReadFileErr
file_refusal input.Missing = Missing
file_refusal (input.LineTooLong line) = LineTooLong line
file_refusal input.InputTooLong = InputTooLong
file_refusal (input.Refused (frame.Disk count)) = Disk count
file_refusal (input.Refused frame.NoMemory) = NoMemory
file_refusal (input.Read count) = Read count
file_refusal input.NoMemory = NoMemory

-- the refusal is just the one that the definitions give for what the name holds
abbrev pub IsFileCause : ReadFileErr → Option (List ℕ) → Type 0
IsFileCause Missing held = failure_of_input held ≡ Some missing
IsFileCause (LineTooLong line) held = failure_of_input held ≡ Some (line_too_long line)
IsFileCause InputTooLong held = failure_of_input held ≡ Some input_too_long
IsFileCause (Read count) held = Unit {0}
IsFileCause (Disk count) held = Unit {0}
IsFileCause NoMemory held = Unit {0}

-- a fault of the shelf tells the count now, which rose
abbrev pub IsFileFault : ReadFileErr → ℕ → ℕ → Type 0
IsFileFault (Read count) before now = TellsCount count before now
IsFileFault _ before now = Unit {0}

-- a fault of the disk is one of this call, which takes further turns behind it
abbrev pub IsDiskFault : ReadFileErr → HandValue → HandValue → Type 0
IsDiskFault (Disk count) before after = (at : HandValue) × HasHit before.notes at.notes count × Follows at after
IsDiskFault _ before after = Unit {0}

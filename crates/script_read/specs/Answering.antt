-- What the reader answers, beside what the lines read as.
use Rattle.std.specs.Prelude.{◌≡◌, ℕ, ◌++◌, Result, Ok, Err}
use Rattle.script_defs.specs.Scripts.{Script}
use Rattle.row_defs.specs.declared.cause.Cause.{Cause}
use Rattle.script_read.specs.declared.reader.ReadErr as errors
use Rattle.script_read.specs.declared.reader.ReadErr.TheVariants.{Bad, NoMemory}

-- the statements so far, and those that the rest reads as
abbrev pub after_all : Script → Result Script (ℕ × Cause) → Result Script (ℕ × Cause)
after_all script (Ok more) = Ok (script ++ more)
after_all script (Err e) = Err e

-- a refusal is just the one that the bytes have
abbrev pub IsReason : errors.ReadErr → Result Script (ℕ × Cause) → Type 0
IsReason (Bad line cause) reading = reading ≡ Err (line, cause)
IsReason NoMemory reading = Unit {0}

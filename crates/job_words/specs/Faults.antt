-- The status and the line of each fault.
use Rattle.std.specs.Prelude.{ℕ, List, ◌++◌, decimal, codes}
use Rattle.row_defs.specs.declared.cause.Cause.{Cause}
use Rattle.row_defs.specs.declared.cause.Cause.TheVariants as causes
use Rattle.job_words.specs.declared.fault.TopFault.{TopFault}
use Rattle.job_words.specs.declared.fault.TopFault.TheVariants.{Usage, Script, Missing, LineTooLong, InputTooLong, PoolTooSmall, TooManyRows, ReadFault, WriteFault, DiskFault, Damaged, NoMemory}

abbrev pub fault_status : TopFault → ℕ
fault_status Usage = 2
fault_status (Script line cause) = 3
fault_status (Missing name) = 4
fault_status (LineTooLong name line) = 5
fault_status (InputTooLong name) = 5
fault_status (PoolTooSmall frames need) = 6
fault_status (TooManyRows line) = 7
fault_status (ReadFault count) = 8
fault_status (WriteFault count) = 9
fault_status (DiskFault count) = 10
fault_status Damaged = 11
fault_status NoMemory = 12

abbrev pub cause_name : Cause → List ℕ
cause_name causes.ScriptLong = codes "ScriptLong"
cause_name causes.LineLong = codes "LineLong"
cause_name causes.BadForm = codes "BadForm"
cause_name causes.UnknownName = codes "UnknownName"
cause_name causes.NameTaken = codes "NameTaken"
cause_name causes.UnknownWord = codes "UnknownWord"
cause_name causes.BadNumber = codes "BadNumber"
cause_name causes.BadColumn = codes "BadColumn"
cause_name causes.BadKind = codes "BadKind"
cause_name causes.TooManyColumns = codes "TooManyColumns"
cause_name causes.NotCommuting = codes "NotCommuting"
cause_name causes.NotSorted = codes "NotSorted"

-- the line that is written for a fault, with its LF
abbrev pub fault_line : TopFault → List ℕ
fault_line Usage = codes "thrill: usage\n"
fault_line (Script line cause) = codes "thrill: script line " ++ (decimal line ++ (codes ": " ++ (cause_name cause ++ codes "\n")))
fault_line (Missing name) = codes "thrill: missing " ++ (name ++ codes "\n")
fault_line (LineTooLong name line) = codes "thrill: " ++ (name ++ (codes " line " ++ (decimal line ++ codes " too long\n")))
fault_line (InputTooLong name) = codes "thrill: " ++ (name ++ codes " too long\n")
fault_line (PoolTooSmall frames need) = codes "thrill: pool has " ++ (decimal frames ++ (codes " frames, needs " ++ (decimal need ++ codes "\n")))
fault_line (TooManyRows line) = codes "thrill: script line " ++ (decimal line ++ codes ": too many rows\n")
fault_line (ReadFault count) = codes "thrill: read failed\n"
fault_line (WriteFault count) = codes "thrill: write failed\n"
fault_line (DiskFault count) = codes "thrill: disk failed\n"
fault_line Damaged = codes "thrill: block damaged\n"
fault_line NoMemory = codes "thrill: no memory\n"

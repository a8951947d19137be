-- What the end of a call says of its fault, and of what standard error took.
use Rattle.std.specs.Prelude.{◌≡◌, ◌⊎◌, ℕ, List, Option, None, Some}
use Rattle.row_defs.specs.declared.cause.Cause.{Cause}
use Rattle.row_defs.specs.Inputs.{Inputs}
use Rattle.script_defs.specs.Reading.{IsRefused}
use Rattle.dia_edge.specs.Counts.{HasRisen}
use Rattle.dia_edge.specs.Sinks.{TookAll, TookPrefix}
use Rattle.job_words.specs.Faults.{fault_line, fault_status}
use Rattle.job_words.specs.declared.fault.TopFault.{TopFault}
use Rattle.job_words.specs.declared.fault.TopFault.TheVariants as faults
use Rattle.thrill_top.specs.declared.read.BytesErr.{BytesErr}
use Rattle.thrill_top.specs.declared.read.BytesErr.TheVariants.{Missing}

-- where the shelf holds these inputs there is none with the name
abbrev pub IsAbsentBytes : BytesErr → Inputs → List ℕ → Type 0
IsAbsentBytes Missing inputs name = inputs name ≡ None
IsAbsentBytes _ inputs name = Unit {0}

-- the input with this name is refused as a script
abbrev pub IsRefusedScript : Inputs → List ℕ → ℕ → Cause → Type 0
IsRefusedScript inputs name n cause = (bytes : List ℕ) × (inputs name ≡ Some bytes) × IsRefused bytes n cause

-- why the script with this name wasn't read, where the shelf holds these inputs
abbrev pub IsUnread : Inputs → List ℕ → TopFault → Type 0
IsUnread inputs name (faults.Missing absent) = (absent ≡ name) × (inputs name ≡ None)
IsUnread inputs name (faults.Script n cause) = IsRefusedScript inputs name n cause
IsUnread inputs name (faults.ReadFault count) = Unit {0}
IsUnread inputs name faults.NoMemory = Unit {0}
IsUnread inputs name _ = ⊥

-- one of those faults, whatever the shelf tells
abbrev pub IsReadFault : TopFault → Type 0
IsReadFault (faults.Missing absent) = Unit {0}
IsReadFault (faults.Script n cause) = Unit {0}
IsReadFault (faults.ReadFault count) = Unit {0}
IsReadFault faults.NoMemory = Unit {0}
IsReadFault _ = ⊥

-- what standard error took for a fault: its line, or a prefix of that where the count rose
abbrev pub TookLine : TopFault → Option (List ℕ) → Option (List ℕ) → ℕ → ℕ → Type 0
TookLine fault taken now before count = TookAll taken (fault_line fault) now ⊎ (TookPrefix taken (fault_line fault) now × HasRisen before count)

-- the status of a call with this fault, or with none
abbrev pub status_in : Option TopFault → ℕ
status_in None = 0
status_in (Some fault) = fault_status fault

-- How a run goes on with each stage, or stops.
use Rattle.std.specs.Prelude.{◌≡◌, ℕ, List, map, Option, Some}
use Rattle.row_defs.specs.Inputs.{Inputs}
use Rattle.row_defs.specs.Operands.{Operand}
use Rattle.script_defs.specs.Work.{Item}
use Rattle.dia_file.specs.Files.{FileValue}
use Rattle.scatter.specs.Lines.{Sets, first_kinds}
use Rattle.stage_laws.specs.Standing.{GoesOn, Stops, KeepsOn}
use Rattle.script_run.specs.declared.run_err.RunErr.{RunErr}
use Rattle.script_run.specs.Errors.{ending_of}
use Rattle.script_run.specs.Held.{Held, kept_by, IsReady, told_by}
use Rattle.script_run.specs.Weighing.{IsWeighed}

-- the workers do this item, which reads these operands, and go on
pub record Does (item : Item) (operands : List Operand) (told : Option Inputs) (old new : Held) (taken now : Option (List ℕ)) : Type 0 where
  pub goes : GoesOn (IsWeighed old.hands) (IsWeighed new.hands) old.script (told_by told old.hands) item (kept_by old.lines) taken (kept_by new.lines) now
  pub keeps : KeepsOn old.script item operands (kept_by old.lines) (kept_by new.lines)
  pub ready : IsReady new

-- or they stop there with an error
abbrev pub StopsAt : Item → Option Inputs → Held → Option (List ℕ) → RunErr → Option (List ℕ) → Type 0
StopsAt item told old taken e now = Stops (IsWeighed old.hands) old.script (told_by told old.hands) item (kept_by old.lines) taken (ending_of e) now

-- these files were put for line n; nothing else changed but what the hands note
pub record IsPut (n : ℕ) (files : List FileValue) (old new : Held) : Type 0 where
  pub sets : Sets old.lines n (Some (record { kinds = first_kinds files; parts = map (λ (f : FileValue). Some f) files })) new.lines
  pub ready : IsReady new
  pub script : new.script ≡ old.script
  pub hands : new.hands ≡ old.hands

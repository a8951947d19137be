-- The stages of work before anything is known of their readers.
use Rattle.std.specs.Prelude.{◌≡◌, true, false, Option, None, Some}
use Rattle.script_defs.specs.Scripts.{Script}
use Rattle.script_defs.specs.Work.{Item}
use Rattle.script_defs.specs.Plans.{Stage, IsStage, item_of, is_stage}
use Rattle.stage_builder.specs.declared.plan.Stage as stages
use Rattle.stage_builder.specs.Views.{stage_in}

-- the item of the work that a stage does
abbrev pub done_by : Stage → Item
done_by s = item_of s.number s.statement

-- the stage of an item; an item whose rows are made anew at each use has none
abbrev pub IsDraftOf : Script → Item → Option stages.Stage → Type 0
IsDraftOf script item None = is_stage script item ≡ false
IsDraftOf script item (Some s) = (is_stage script item ≡ true) × (done_by (stage_in s) ≡ item) × IsStage script (stage_in s)

-- The plan of the definitions that the code's plan stands for.
use Rattle.std.specs.Prelude.{List, [], ◌∷◌, map}
use Rattle.row_defs.specs.Operands.{Operand}
use Rattle.script_defs.specs.Scripts.{Statement, line, act, lines_form, cache_form}
use Rattle.script_defs.specs.Plans.{Stage}
use Rattle.lop_chain.specs.Operands.{operand_in}
use Rattle.script_read.specs.Statements.{action_in}
use Rattle.stage_builder.specs.declared.plan.Task as tasks
use Rattle.stage_builder.specs.declared.plan.Task.TheVariants.{Read, Cache, Act}
use Rattle.stage_builder.specs.declared.plan.Stage as stages
use Rattle.stage_builder.specs.declared.plan.Plan as plans

abbrev pub statement_of_task : tasks.Task → Statement
statement_of_task (Read name input) = line name.now (lines_form input.now)
statement_of_task (Cache name of operand) = line name.now (cache_form of)
statement_of_task (Act action operand) = act (action_in action.now)

abbrev pub operands_of_task : tasks.Task → List Operand
operands_of_task (Read name input) = []
operands_of_task (Cache name of operand) = operand_in operand ∷ []
operands_of_task (Act action operand) = operand_in operand ∷ []

abbrev pub stage_in : stages.Stage → Stage
stage_in s = record {
  number = s.line;
  statement = statement_of_task s.task;
  word = s.word;
  readers = s.readers;
  operands = operands_of_task s.task;
}

abbrev pub stages_in : List stages.Stage → List Stage
stages_in stages = map stage_in stages

abbrev pub plan_in : plans.Plan → List Stage
plan_in plan = stages_in plan.stages.items

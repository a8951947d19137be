use Rattle.std.proofs.Common.{◌++◌, subst}
use Rattle.stage_builder.specs.Marks.{roots_of}
use Rattle.stage_builder.specs.Tables.{counts_in, Counts}
use Rattle.stage_builder.specs.Views.{operands_of_task}
use Rattle.stage_builder.specs.declared.plan.Task as tasks
use Rattle.stage_builder.proofs.marks.mark_stage.Goals as goal

pub returns-in-Cache-clause-left : goal.returns-in-Cache-clause-left
returns-in-Cache-clause-left c = λ later have.
    let Have : tasks.Task → Type 0 = λ t. Counts (counts_in c.args.left.now) (roots_of (operands_of_task t) ++ later) in
    c.mark_operand.ensures.left later (subst Have c.in-Cache.is have)

pub returns-in-Act-clause-left : goal.returns-in-Act-clause-left
returns-in-Act-clause-left c = λ later have.
    let Have : tasks.Task → Type 0 = λ t. Counts (counts_in c.args.left.now) (roots_of (operands_of_task t) ++ later) in
    c.mark_operand-in-Act.ensures.left later (subst Have c.in-Act.is have)

use Rattle.std.proofs.Common.{◌≡◌, ◌++◌, take, drop}
use Rattle.script_defs.specs.Plans.{all_operands}
use Rattle.stage_builder.specs.Marks.{roots_of, marked}
use Rattle.stage_builder.specs.Tables.{counts_in, Counts}
use Rattle.stage_builder.specs.Views.{stages_in}
use Rattle.stage_builder.proofs.marks.mark.Given as goal

abbrev pub invariant-loop-stage : goal.invariant-loop-stage
invariant-loop-stage l =
    let roots = roots_of (all_operands (stages_in l.initial.stages)) in
    record {
      left : Counts (counts_in l.left) (roots_of (all_operands (stages_in (drop l.stage-index l.stages))));
      done : marked roots (stages_in l.initial.stages) ≡ stages_in (take l.stage-index l.stages) ++ marked roots (stages_in (drop l.stage-index l.stages));
    }

use Rattle.std.proofs.Common.{◌≡◌, drop, ◌+◌, ◌<◌, length, slice_index_or, ap, arith}
use Rattle.script_defs.specs.Plans.{all_operands}
use Rattle.stage_builder.specs.Marks.{roots_of, marked}
use Rattle.stage_builder.specs.declared.plan.Stage as stages
use Rattle.stage_builder.specs.Tables.{counts_in}
use Rattle.stage_builder.specs.Views.{stages_in}
use Rattle.stage_builder.proofs.PlanLemmas.{counts_next, counts_later, marked_next}
use Rattle.stage_builder.proofs.marks.mark.Goals as goal

pub loop-stage-preserved : goal.loop-stage-preserved
loop-stage-preserved c =
    let i = c.loop-stage.invariant in
    let xs = c.loop-stage.stages in
    let n = c.loop-stage.stage-index in
    let low : n < length xs = omega (arith, c.loop-stage-test.true, c.loop-stage.auto.stages) in
    let d = slice_index_or xs n c.stage-item.result in
    let is : d ≡ slice_index_or xs n d = ap (λ (x : stages.Stage). slice_index_or xs n x) c.stage-item.is in
    let roots = roots_of (all_operands (stages_in c.args.stages.now)) in
    let later = roots_of (all_operands (stages_in (drop (n + 1) xs))) in
    let have = counts_next (counts_in c.loop-stage.left) xs n d low is i.left in
    record {
      left = counts_later (counts_in c.mark_stage.new.left) xs n c.mark_stage.new.stage (c.mark_stage.ensures.left later have);
      done = marked_next roots (marked roots (stages_in c.args.stages.now)) xs n d c.mark_stage.new.stage low is (c.mark_stage.ensures.stage roots later c.requires.all have) i.done;
    }

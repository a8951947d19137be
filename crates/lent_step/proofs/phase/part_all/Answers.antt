use Rattle.std.proofs.Common.{rules, ◌≡◌, ◌∷◌, refl, arith}
use Rattle.std.proofs.lemmas.Grind.{common_steps}
use Rattle.std.specs.Vec.Iter.{into_iter_items}
use Rattle.lent_step.proofs.Lists.{zip_more, yield_more}
use Rattle.lent_step.proofs.phase.part_all.Goals as goal

pub loop-task-preserved : goal.loop-task-preserved
loop-task-preserved g c =
    let i = c.loop-task.invariant in
    let step : into_iter_items c.loop-task.task-iterator ≡ c.in-Some.task ∷ into_iter_items c.next.new.self = search rules in
    record {
      rest = yield_more c.loop-task.yielded _ _ c.args.tasks.items c.in-Some.task step i.rest;
      desks = rw c.push_reserved.ensures.items (zip_more _ _ _ c.in-Some.task _ i.desks refl);
      works = rw c.push_reserved-in-loop-task.ensures.items (zip_more _ _ _ c.in-Some.task _ i.works refl);
      desk_count = grind (arith, common_steps);
      work_count = grind (arith, common_steps);
      desk_room = search rules;
      work_room = search rules;
    }

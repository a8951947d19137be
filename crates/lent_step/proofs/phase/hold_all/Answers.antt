use Rattle.std.proofs.Common.{rules, ◌≡◌, ◌∷◌, length, drop, arith}
use Rattle.std.proofs.lemmas.Grind.{common_steps}
use Rattle.std.specs.Vec.Iter.{into_iter_items}
use Rattle.lent_step.proofs.Lists.{held_more, take_next, drop_next, one_longer, yield_more}
use Rattle.lent_step.proofs.phase.hold_all.Goals as goal

pub loop-desk-preserved : goal.loop-desk-preserved
loop-desk-preserved g c =
    let i = c.loop-desk.invariant in
    let step : into_iter_items c.loop-desk.desk-iterator ≡ c.in-Some.desk ∷ into_iter_items c.next.new.self = search rules in
    let n = length c.loop-desk.yielded in
    let next : drop n c.args.works.items ≡ c.in-Some-next.work ∷ into_iter_items c.next-in-loop-desk.new.self = search rules in
    let more = one_longer c.loop-desk.yielded c.in-Some.desk in
    record {
      rest = yield_more c.loop-desk.yielded _ _ c.args.desks.items c.in-Some.desk step i.rest;
      left = rw more (drop_next n c.args.works.items c.in-Some-next.work _ next);
      held = rw (c.push_reserved.ensures.items, more, take_next n c.args.works.items c.in-Some-next.work _ next)
          (held_more _ _ _ c.new.result c.in-Some.desk c.in-Some-next.work i.held c.new.ensures.desk c.new.ensures.work c.new.ensures.began);
      count = grind (arith, common_steps);
      room = search rules;
    }

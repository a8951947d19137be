use Rattle.std.proofs.Common.{rules, ◌≡◌, ◌∷◌, length, drop, arith}
use Rattle.std.proofs.lemmas.Grind.{common_steps}
use Rattle.std.specs.Vec.Iter.{into_iter_items}
use Rattle.scatter.proofs.Threes.{three_more}
use Rattle.lent_step.proofs.Lists.{take_next, drop_next, yield_more, one_longer}
use Rattle.dealing.specs.Boxes.{IsMerged}
use Rattle.dealing.proofs.merging.merge_all.Goals as goal

pub loop-first-preserved : goal.loop-first-preserved
loop-first-preserved c =
    let i = c.loop-first.invariant in
    let step : into_iter_items c.loop-first.first-iterator ≡ c.in-Some.first ∷ into_iter_items c.next.new.self = search rules in
    let n = length c.loop-first.yielded in
    let next : drop n c.args.boxes.items ≡ c.in-Some-next.more ∷ into_iter_items c.next-in-loop-first.new.self = search rules in
    let more = one_longer c.loop-first.yielded c.in-Some.first in
    record {
      rest = yield_more c.loop-first.yielded _ _ c.args.into.items c.in-Some.first step i.rest;
      left = rw more (drop_next n c.args.boxes.items c.in-Some-next.more _ next);
      done = rw (c.push_reserved.ensures.items, more, take_next n c.args.boxes.items c.in-Some-next.more _ next)
          (three_more (IsMerged c.args.by) _ _ _ c.in-Some.first c.in-Some-next.more c.in_ok-merge.field-0 i.done c.in_ok-merge.ensures);
      count = grind (arith, common_steps);
      room = search rules;
    }

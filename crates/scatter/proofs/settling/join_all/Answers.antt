use Rattle.std.proofs.Common.{rules, ◌≡◌, ◌∷◌, length, drop, arith}
use Rattle.std.proofs.lemmas.Grind.{common_steps}
use Rattle.std.specs.Vec.Iter.{into_iter_items}
use Rattle.scatter.specs.Carrying.{IsJoined}
use Rattle.scatter.proofs.Threes.{three_more}
use Rattle.scatter.proofs.settling.join_all.Goals as goal
use Rattle.lent_step.proofs.Lists.{take_next, drop_next, yield_more, one_longer}

pub loop-front-preserved : goal.loop-front-preserved
loop-front-preserved c =
    let i = c.loop-front.invariant in
    let step : into_iter_items c.loop-front.front-iterator ≡ c.in-Some.front ∷ into_iter_items c.next.new.self = search rules in
    let n = length c.loop-front.yielded in
    let next : drop n c.args.boxes.items ≡ c.in-Some-next.rest ∷ into_iter_items c.next-in-loop-front.new.self = search rules in
    let more = one_longer c.loop-front.yielded c.in-Some.front in
    record {
      rest = yield_more c.loop-front.yielded _ _ c.args.fronts.items c.in-Some.front step i.rest;
      left = rw more (drop_next n c.args.boxes.items c.in-Some-next.rest _ next);
      joined = rw (c.push_reserved.ensures.items, more, take_next n c.args.boxes.items c.in-Some-next.rest _ next)
          (three_more IsJoined _ _ _ c.in-Some.front c.in-Some-next.rest c.in_ok-join.field-0 i.joined c.in_ok-join.ensures);
      count = grind (arith, common_steps);
      room = search rules;
    }

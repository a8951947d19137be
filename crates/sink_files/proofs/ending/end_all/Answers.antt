use Rattle.std.proofs.Common.{rules, ◌≡◌, ◌∷◌, length, drop, arith, subst}
use Rattle.std.proofs.lemmas.Grind.{common_steps}
use Rattle.std.specs.List.{AllZip}
use Rattle.std.specs.Vec.Iter.{into_iter_items}
use Rattle.scatter.proofs.Threes.{three_more}
use Rattle.sink_files.specs.Ending.{CanEnd, IsBack, IsPartFrom}
use Rattle.sink_files.proofs.ending.end_all.Goals as goal
use Rattle.lent_step.proofs.Lists.{take_next, drop_next, yield_more, one_longer}

pub loop-sink-preserved : goal.loop-sink-preserved
loop-sink-preserved g c =
    let i = c.loop-sink.invariant in
    let Can = CanEnd c.args.end in
    let step : into_iter_items c.loop-sink.sink-iterator ≡ c.in-Some.sink ∷ into_iter_items c.next.new.self = search rules in
    let n = length c.loop-sink.yielded in
    let here : into_iter_items c.loop-sink.hands ≡ c.in-Some-next.hand ∷ into_iter_items c.next-in-loop-sink.new.self = search rules in
    let next : drop n c.args.hands.items ≡ c.in-Some-next.hand ∷ into_iter_items c.next-in-loop-sink.new.self = search rules in
    let more = one_longer c.loop-sink.yielded c.in-Some.sink in
    let own : AllZip Can (c.in-Some.sink ∷ into_iter_items c.next.new.self) (c.in-Some-next.hand ∷ into_iter_items c.next-in-loop-sink.new.self) =
    subst (λ hs. AllZip Can (c.in-Some.sink ∷ into_iter_items c.next.new.self) hs) here (subst (λ ss. AllZip Can ss (into_iter_items c.loop-sink.hands)) step i.own) in
    record {
      rest = yield_more c.loop-sink.yielded _ _ c.args.sinks.items c.in-Some.sink step i.rest;
      left = rw more (drop_next n c.args.hands.items c.in-Some-next.hand _ next);
      own = own.1;
      done = rw (c.push_reserved-in-loop-sink.ensures.items, more, take_next n c.args.hands.items c.in-Some-next.hand _ next)
          (three_more IsBack _ _ _ c.in-Some.sink c.in-Some-next.hand c.end_one.new.hand i.done c.end_one.ensures.hand);
      made = rw (c.push_reserved-in-loop-sink.ensures.items, c.push_reserved.ensures.items)
          (three_more IsPartFrom _ _ _ c.in-Some.sink c.end_one.new.hand c.end_one.result i.made c.end_one.ensures.part);
      hand_count = grind (arith, common_steps);
      part_count = grind (arith, common_steps);
      hand_room = search rules;
      part_room = search rules;
    }

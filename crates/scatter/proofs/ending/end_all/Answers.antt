use Rattle.std.proofs.Common.{rules, ◌≡◌, ◌∷◌, length, drop, arith, subst}
use Rattle.std.proofs.lemmas.Grind.{common_steps}
use Rattle.std.specs.List.{AllZip}
use Rattle.std.specs.Vec.Iter.{into_iter_items}
use Rattle.scatter.specs.Phases.{IsEnded, IsOwn, file_kept, sink_in}
use Rattle.scatter.proofs.Threes.{three_more, map_push}
use Rattle.scatter.proofs.ending.end_all.Goals as goal
use Rattle.lent_step.proofs.Lists.{take_next, drop_next, yield_more, one_longer}

pub loop-send-preserved : goal.loop-send-preserved
loop-send-preserved g c =
    let i = c.loop-send.invariant in
    let step : into_iter_items c.loop-send.send-iterator ≡ c.in-Some.send ∷ into_iter_items c.next.new.self = search rules in
    let n = length c.loop-send.yielded in
    let here : into_iter_items c.loop-send.hands ≡ c.in-Some-next.hand ∷ into_iter_items c.next-in-loop-send.new.self = search rules in
    let next : drop n c.args.hands.items ≡ c.in-Some-next.hand ∷ into_iter_items c.next-in-loop-send.new.self = search rules in
    let more = one_longer c.loop-send.yielded c.in-Some.send in
    let own : AllZip IsOwn (c.in-Some.send ∷ into_iter_items c.next.new.self) (c.in-Some-next.hand ∷ into_iter_items c.next-in-loop-send.new.self) =
    subst (λ hs. AllZip IsOwn (c.in-Some.send ∷ into_iter_items c.next.new.self) hs) here (subst (λ ss. AllZip IsOwn ss (into_iter_items c.loop-send.hands)) step i.own) in
    record {
      rest = yield_more c.loop-send.yielded _ _ c.args.sends.items c.in-Some.send step i.rest;
      left = rw more (drop_next n c.args.hands.items c.in-Some-next.hand _ next);
      own = own.1;
      done = rw (c.push_reserved-in-loop-send-2.ensures.items, more, take_next n c.args.hands.items c.in-Some-next.hand _ next)
          (three_more IsEnded _ _ _ c.in-Some.send c.in-Some-next.hand c.end.new.hand i.done (c.end.ensures.follows, c.end.ensures.permits));
      parts = rw (c.push_reserved.ensures.items, c.end.ensures.file) (map_push file_kept c.loop-send.yielded c.in-Some.send c.loop-send.parts.items i.parts);
      sinks = rw c.push_reserved-in-loop-send.ensures.items (map_push sink_in c.loop-send.yielded c.in-Some.send c.loop-send.sinks.items i.sinks);
      hand_count = grind (arith, common_steps);
      part_count = grind (arith, common_steps);
      sink_count = grind (arith, common_steps);
      hand_room = search rules;
      part_room = search rules;
      sink_room = search rules;
    }

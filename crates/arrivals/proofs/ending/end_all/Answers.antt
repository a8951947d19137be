use Rattle.std.proofs.Common.{rules, ◌≡◌, ◌∷◌, length, drop, arith, subst}
use Rattle.std.proofs.lemmas.Grind.{common_steps}
use Rattle.std.specs.List.{AllZip}
use Rattle.std.specs.Vec.Iter.{into_iter_items}
use Rattle.scatter.proofs.Threes.{three_more, map_push}
use Rattle.arrivals.specs.Phases.{IsEnded, IsOwn, sink_in}
use Rattle.arrivals.proofs.ending.end_all.Goals as goal
use Rattle.lent_step.proofs.Lists.{yield_more, one_longer, drop_next, take_next}

pub loop-work-preserved : goal.loop-work-preserved
loop-work-preserved g c =
    let i = c.loop-work.invariant in
    let step : into_iter_items c.loop-work.work-iterator ≡ c.in-Some.work ∷ into_iter_items c.next.new.self = search rules in
    let n = length c.loop-work.yielded in
    let here : into_iter_items c.loop-work.hands ≡ c.in-Some-next.hand ∷ into_iter_items c.next-in-loop-work.new.self = search rules in
    let next : drop n c.args.hands.items ≡ c.in-Some-next.hand ∷ into_iter_items c.next-in-loop-work.new.self = search rules in
    let more = one_longer c.loop-work.yielded c.in-Some.work in
    let own : AllZip IsOwn (c.in-Some.work ∷ into_iter_items c.next.new.self) (c.in-Some-next.hand ∷ into_iter_items c.next-in-loop-work.new.self) =
    subst (λ hs. AllZip IsOwn (c.in-Some.work ∷ into_iter_items c.next.new.self) hs) here (subst (λ ss. AllZip IsOwn ss (into_iter_items c.loop-work.hands)) step i.own) in
    record {
      rest = yield_more c.loop-work.yielded _ _ c.args.works.items c.in-Some.work step i.rest;
      left = rw more (drop_next n c.args.hands.items c.in-Some-next.hand _ next);
      own = own.1;
      done = rw (c.push_reserved-in-loop-work.ensures.items, more, take_next n c.args.hands.items c.in-Some-next.hand _ next)
          (three_more IsEnded _ _ _ c.in-Some.work c.in-Some-next.hand c.end.new.hand i.done (record { follows = c.end.ensures.follows; permits = c.end.ensures.permits; gone = c.end.ensures.gone; made = c.end.ensures.made }));
      sinks = rw c.push_reserved.ensures.items (map_push sink_in c.loop-work.yielded c.in-Some.work c.loop-work.sinks.items i.sinks);
      hand_count = grind (arith, common_steps);
      sink_count = grind (arith, common_steps);
      hand_room = search rules;
      sink_room = search rules;
    }

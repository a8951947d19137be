use Rattle.std.proofs.Common.{rules, ◌≡◌, ◌∷◌, length, drop, arith}
use Rattle.std.proofs.lemmas.Grind.{common_steps}
use Rattle.std.specs.Vec.Iter.{into_iter_items}
use Rattle.scatter.specs.Phases.{HasBegun}
use Rattle.scatter.proofs.Threes.{three_more}
use Rattle.scatter.proofs.phase.pair_all.Goals as goal
use Rattle.lent_step.proofs.Lists.{take_next, drop_next, yield_more, one_longer}

pub loop-feed-preserved : goal.loop-feed-preserved
loop-feed-preserved g c =
    let i = c.loop-feed.invariant in
    let step : into_iter_items c.loop-feed.feed-iterator ≡ c.in-Some.feed ∷ into_iter_items c.next.new.self = search rules in
    let n = length c.loop-feed.yielded in
    let next : drop n c.args.sinks.items ≡ c.in-Some-next.sink ∷ into_iter_items c.next-in-loop-feed.new.self = search rules in
    let more = one_longer c.loop-feed.yielded c.in-Some.feed in
    record {
      rest = yield_more c.loop-feed.yielded _ _ c.args.feeds.items c.in-Some.feed step i.rest;
      left = rw more (drop_next n c.args.sinks.items c.in-Some-next.sink _ next);
      begun = rw (c.push_reserved.ensures.items, more, take_next n c.args.sinks.items c.in-Some-next.sink _ next)
          (three_more HasBegun _ _ _ c.in-Some.feed c.in-Some-next.sink c.new.result i.begun
          (record { feed_is = c.new.ensures.feed; sink_is = c.new.ensures.sink; feed_was = c.new.ensures.feed_was; sink_was = c.new.ensures.sink_was }));
      count = grind (arith, common_steps);
      room = search rules;
    }

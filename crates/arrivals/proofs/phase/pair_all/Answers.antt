use Rattle.std.proofs.Common.{rules, ◌≡◌, ◌∷◌, length, drop, arith}
use Rattle.std.proofs.lemmas.Grind.{common_steps}
use Rattle.std.specs.Vec.Iter.{into_iter_items}
use Rattle.arrivals.specs.Phases.{HasStarted}
use Rattle.scatter.proofs.Threes.{three_more}
use Rattle.arrivals.proofs.phase.pair_all.Goals as goal
use Rattle.lent_step.proofs.Lists.{yield_more, one_longer, drop_next, take_next}

pub loop-reader-preserved : goal.loop-reader-preserved
loop-reader-preserved g c =
    let i = c.loop-reader.invariant in
    let step : into_iter_items c.loop-reader.reader-iterator ≡ c.in-Some.reader ∷ into_iter_items c.next.new.self = search rules in
    let n = length c.loop-reader.yielded in
    let next : drop n c.args.sinks.items ≡ c.in-Some-next.sink ∷ into_iter_items c.next-in-loop-reader.new.self = search rules in
    let more = one_longer c.loop-reader.yielded c.in-Some.reader in
    record {
      rest = yield_more c.loop-reader.yielded _ _ c.args.readers.items c.in-Some.reader step i.rest;
      left = rw more (drop_next n c.args.sinks.items c.in-Some-next.sink _ next);
      started = rw (c.push_reserved.ensures.items, more, take_next n c.args.sinks.items c.in-Some-next.sink _ next)
          (three_more HasStarted _ _ _ c.in-Some.reader c.in-Some-next.sink c.new.result i.started
          (record { reader_is = c.new.ensures.reader; sink_is = c.new.ensures.sink; pinned_is = c.new.ensures.pinned; reader_was = c.new.ensures.reader_was; sink_was = c.new.ensures.sink_was }));
      count = grind (arith, common_steps);
      room = search rules;
    }

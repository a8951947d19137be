use Rattle.std.proofs.Common.{rules, ◌≡◌, ◌∷◌, arith}
use Rattle.std.proofs.lemmas.Grind.{common_steps}
use Rattle.std.specs.Vec.Iter.{into_iter_items}
use Rattle.dia_item.specs.KindList.{kind_list}
use Rattle.arrivals.specs.Phases.{IsReaderOf}
use Rattle.arrivals.proofs.phase.read_all.Goals as goal
use Rattle.lent_step.proofs.Lists.{yield_more, zip_more}

pub loop-inbox-preserved : goal.loop-inbox-preserved
loop-inbox-preserved c =
    let i = c.loop-inbox.invariant in
    let step : into_iter_items c.loop-inbox.inbox-iterator ≡ c.in-Some.inbox ∷ into_iter_items c.next.new.self = search rules in
    let e = c.in-Ok.ensures in
    record {
      rest = yield_more c.loop-inbox.yielded _ _ c.args.boxes.items c.in-Some.inbox step i.rest;
      readers = rw c.push_reserved.ensures.items (zip_more (IsReaderOf (kind_list c.args.kinds)) c.loop-inbox.yielded c.loop-inbox.readers.items c.in-Some.inbox c.in-Ok.reader i.readers
          (record { kinds_are = e.kinds; bytes = e.bytes; none = e.pins; own = e.pools }));
      count = grind (arith, common_steps);
      room = search rules;
    }

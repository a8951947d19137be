use Rattle.std.proofs.Common.{rules, arith}
use Rattle.std.proofs.lemmas.Grind.{common_steps}
use Rattle.dia_item.specs.KindList.{kind_list}
use Rattle.sink_files.specs.Ending.{IsFreshSink}
use Rattle.lent_step.proofs.Lists.{zip_next}
use Rattle.sink_files.proofs.making.sinks_for.Goals as goal

pub loop-hand-preserved : goal.loop-hand-preserved
loop-hand-preserved g c =
    let i = c.loop-hand.invariant in
    let e = c.new.ensures in
    record {
      fresh = rw c.push_reserved.ensures.items (zip_next (IsFreshSink (kind_list c.args.kinds)) c.loop-hand.sinks.items c.args.hands.now c.loop-hand.hand-index c.new.result c.hand-item.result
          c.loop-hand-test.true c.hand-item.is i.fresh (record { own = e.pool; kinds_are = e.kinds; limit = e.limit; none = e.rows; frame = e.frame; is_open = e.is_open }));
      len = grind (arith, common_steps);
      room = search rules;
    }

use Rattle.std.proofs.Common.{rules, ◌≡◌, false, subst, arith}
use Rattle.block_pool.specs.Handles.{PoolName}
use Rattle.lop_chain.specs.Rows.{Kinds}
use Rattle.scatter.specs.Fitting.{CanFeed}
use Rattle.scatter.specs.Steps.{IsFed, NotFed}
use Rattle.scatter.specs.Sends.{IsSent, Goes, HoldsStill}
use Rattle.scatter.specs.SendLaws.{goes_trans}
use Rattle.scatter.proofs.SentRows.{sent_one, sent_more, unsent_one, unsent_more, can_go_on}
use Rattle.scatter.proofs.feed.Feed.push_rows.Goals as goal

pub returns-in-Err-clause-unsent : goal.returns-in-Err-clause-unsent
returns-in-Err-clause-unsent g c =
    let i = c.loop-row.invariant in
    let laws = c.laws_of.ensures in
    let refused : NotFed g.S.RowSink c.loop-row.self c.loop-row.sink c.loop-row.hand c.in-Err.refusal c.step.new.self c.step.new.sink c.step.new.hand = search rules in
    let here = unsent_one g.S.RowSink laws c.loop-row.self c.step.new.self c.loop-row.sink c.step.new.sink c.loop-row.hand c.step.new.hand c.in-Err.refusal i.can.is_open refused in
    unsent_more g.S.RowSink laws i.can.rests c.args.self.now c.loop-row.self c.step.new.self c.args.sink.now c.loop-row.sink c.step.new.sink
    c.args.hand.now c.loop-row.hand c.step.new.hand c.in-Err.refusal i.goes i.sent here

pub loop-row-preserved : goal.loop-row-preserved
loop-row-preserved g c =
    let i = c.loop-row.invariant in
    let laws = c.laws_of.ensures in
    let fed : IsFed g.S.RowSink c.loop-row.self c.loop-row.sink c.loop-row.hand c.step.new.self c.step.new.sink = search rules in
    let accepts : (kinds : Kinds) → g.S.RowSink.accepts c.loop-row.sink kinds → g.S.RowSink.accepts c.step.new.sink kinds = search rules in
    let accepted : (kinds : Kinds) → g.S.RowSink.accepts c.step.new.sink kinds → g.S.RowSink.accepts c.loop-row.sink kinds = search rules in
    let can : CanFeed g.S.RowSink c.step.new.self c.step.new.sink c.step.new.hand = search rules in
    let is_open : g.S.RowSink.is_shut c.step.new.sink ≡ false = search rules in
    let held : HoldsStill g.S.RowSink c.loop-row.self c.loop-row.sink c.loop-row.hand c.step.new.self c.step.new.sink c.step.new.hand = search rules in
    let one = sent_one g.S.RowSink laws c.loop-row.self c.step.new.self c.loop-row.sink c.step.new.sink c.loop-row.hand fed accepts accepted is_open in
    let P : PoolName → Type 0 = λ pool. IsSent g.S.RowSink pool c.loop-row.self c.loop-row.sink c.step.new.self c.step.new.sink in
    let goes : Goes g.S.RowSink c.loop-row.self c.loop-row.sink c.loop-row.hand c.step.new.self c.step.new.sink c.step.new.hand =
    record {
      follows = c.step.ensures.follows;
      same = c.step.ensures.same;
      stays = c.step.ensures.stays;
      own = λ own. c.step.ensures.own;
      held = λ is_open. (i.can.is_open, held);
    } in
    let count = fed.gives.count in
    let before = i.count in
    record {
      sent = sent_more g.S.RowSink laws c.args.hand.now.pool c.args.self.now c.loop-row.self c.step.new.self c.args.sink.now c.loop-row.sink c.step.new.sink i.goes.same i.sent (subst P i.goes.follows.pool one);
      goes = goes_trans g.S.RowSink laws.stays_trans c.args.self.now c.loop-row.self c.step.new.self c.args.sink.now c.loop-row.sink c.step.new.sink
          c.args.hand.now c.loop-row.hand c.step.new.hand i.goes goes;
      can = can_go_on g.S.RowSink laws c.loop-row.self c.step.new.self c.loop-row.sink c.step.new.sink c.loop-row.hand c.step.new.hand i.can c.step.ensures.same c.step.ensures.own accepts can is_open;
      count = omega arith;
    }

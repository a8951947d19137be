use Rattle.std.proofs.Common.{rules, ◌≡◌, [], subst}
use Rattle.block_pool.specs.Handles.{PoolName}
use Rattle.scatter.specs.Sends.{IsSent, CanSend, Unsent}
use Rattle.scatter.specs.SendLaws.{goes_trans}
use Rattle.scatter.proofs.SentRows.{sent_more, unsent_more}
use Rattle.feed_print.proofs.pushing.push_all.Goals as goal

pub loop-more-preserved-in-Ok-More : goal.loop-more-preserved-in-Ok-More
loop-more-preserved-in-Ok-More g c =
    let i = c.loop-more.invariant in
    let laws = c.laws_of.ensures in
    let one : IsSent g.S.RowSink c.loop-more.hand.pool c.loop-more.feed c.loop-more.sink c.push_rows.new.self c.push_rows.new.sink = search rules in
    let can : CanSend g.S.RowSink c.push_rows.new.self c.push_rows.new.sink c.push_rows.new.hand = search rules in
    let P : PoolName → Type 0 = λ pool. IsSent g.S.RowSink pool c.loop-more.feed c.loop-more.sink c.push_rows.new.self c.push_rows.new.sink in
    record {
      sent = sent_more g.S.RowSink laws c.args.hand.now.pool c.args.feed.now c.loop-more.feed c.push_rows.new.self c.args.sink.now c.loop-more.sink c.push_rows.new.sink i.goes.same i.sent (subst P i.goes.follows.pool one);
      goes = goes_trans g.S.RowSink laws.stays_trans c.args.feed.now c.loop-more.feed c.push_rows.new.self c.args.sink.now c.loop-more.sink c.push_rows.new.sink
          c.args.hand.now c.loop-more.hand c.push_rows.new.hand i.goes c.push_rows.ensures.goes;
      can = λ more. can;
      end = λ none. absurd (cc (c.loop-more-test.true, none));
    }

pub loop-more-preserved : goal.loop-more-preserved
loop-more-preserved g c =
    let i = c.loop-more.invariant in
    let laws = c.laws_of.ensures in
    let one : IsSent g.S.RowSink c.loop-more.hand.pool c.loop-more.feed c.loop-more.sink c.push_rows.new.self c.push_rows.new.sink = search rules in
    let end : c.push_rows.new.self.left ≡ [] = search rules in
    let P : PoolName → Type 0 = λ pool. IsSent g.S.RowSink pool c.loop-more.feed c.loop-more.sink c.push_rows.new.self c.push_rows.new.sink in
    record {
      sent = sent_more g.S.RowSink laws c.args.hand.now.pool c.args.feed.now c.loop-more.feed c.push_rows.new.self c.args.sink.now c.loop-more.sink c.push_rows.new.sink i.goes.same i.sent (subst P i.goes.follows.pool one);
      goes = goes_trans g.S.RowSink laws.stays_trans c.args.feed.now c.loop-more.feed c.push_rows.new.self c.args.sink.now c.loop-more.sink c.push_rows.new.sink
          c.args.hand.now c.loop-more.hand c.push_rows.new.hand i.goes c.push_rows.ensures.goes;
      can = λ more. cc more;
      end = λ none. end;
    }

pub returns-in-Err-clause-unsent : goal.returns-in-Err-clause-unsent
returns-in-Err-clause-unsent g c =
    let i = c.loop-more.invariant in
    let laws = c.laws_of.ensures in
    let can = i.can c.loop-more-test.true in
    let here : Unsent g.S.RowSink c.loop-more.feed c.loop-more.sink c.loop-more.hand c.in-Err.refusal c.push_rows.new.self c.push_rows.new.sink c.push_rows.new.hand = search rules in
    unsent_more g.S.RowSink laws can.rests c.args.feed.now c.loop-more.feed c.push_rows.new.self c.args.sink.now c.loop-more.sink c.push_rows.new.sink
    c.args.hand.now c.loop-more.hand c.push_rows.new.hand c.in-Err.refusal i.goes i.sent here

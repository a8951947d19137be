use Rattle.std.proofs.Common.{sym, subst}
use Rattle.block_pool.specs.Handles.{PoolName}
use Rattle.scatter.specs.Sends.{IsSent, CanGoOn, IsAllSent, Unsent}
use Rattle.scatter.specs.SendLaws.{same_feed_trans}
use Rattle.dia_edge.proofs.Results.{IfErr-map}
use Rattle.scatter.proofs.SentRows.{sent_more, unsent_on, more_of, done_of}
use Rattle.scatter.proofs.sending.task.SendingLentTask.step.Goals as goal

pub returns-clause-ready : goal.returns-clause-ready
returns-clause-ready g c =
    let was = c.requires.ready in
    let work = c.args.self.now in
    let hand = c.push_rows.new.hand in
    let feed = c.push_rows.new.self in
    let sink = c.push_rows.new.sink in
    let goes = c.push_rows.ensures.goes in
    more_of c.push_rows.result _ _ (CanGoOn g.S.RowSink work.feed_was.value work.sink_was.value feed sink hand)
    (λ sent can.
    let P : PoolName → Type 0 = λ pool. IsSent g.S.RowSink pool work.feed_was.value work.sink_was.value feed sink in
    record {
      can = can;
      sent = subst P (sym goes.follows.pool)
          (sent_more g.S.RowSink c.laws_of.ensures c.args.hand.now.pool work.feed_was.value work.feed feed work.sink_was.value work.sink sink was.same was.sent sent);
      same = same_feed_trans work.feed_was.value work.feed feed was.same goes.same;
    }) c.push_rows.ensures.sent c.push_rows.ensures.can

pub returns-clause-done : goal.returns-clause-done
returns-clause-done g c =
    let was = c.requires.ready in
    let work = c.args.self.now in
    let hand = c.push_rows.new.hand in
    let feed = c.push_rows.new.self in
    let sink = c.push_rows.new.sink in
    let goes = c.push_rows.ensures.goes in
    done_of c.push_rows.result _ _ _ (IsAllSent g.S.RowSink work.feed_was.value work.sink_was.value feed sink hand)
    (λ sent can none.
    let P : PoolName → Type 0 = λ pool. IsSent g.S.RowSink pool work.feed_was.value work.sink_was.value feed sink in
    record {
      sent = subst P (sym goes.follows.pool)
          (sent_more g.S.RowSink c.laws_of.ensures c.args.hand.now.pool work.feed_was.value work.feed feed work.sink_was.value work.sink sink was.same was.sent sent);
      none = none;
      can = can.can;
    }) c.push_rows.ensures.sent c.push_rows.ensures.can c.push_rows.ensures.end

pub returns-clause-faulted : goal.returns-clause-faulted
returns-clause-faulted g c =
    let was = c.requires.ready in
    let work = c.args.self.now in
    let hand = c.push_rows.new.hand in
    let feed = c.push_rows.new.self in
    let sink = c.push_rows.new.sink in
    IfErr-map c.push_rows.result _ (λ e. Unsent g.S.RowSink work.feed_was.value work.sink_was.value c.args.hand.now e feed sink hand)
    (λ e unsent. unsent_on g.S.RowSink c.laws_of.ensures work.feed_was.value work.feed feed work.sink_was.value work.sink sink c.args.hand.now hand e was.same was.sent unsent)
    c.push_rows.ensures.unsent

use Rattle.std.proofs.Common.{◌<◌, length, sym, subst, ◌∙◌}
use Rattle.row_defs.specs.declared.kind.Kind.{Kind}
use Rattle.std.specs.Prelude.{List}
use Rattle.block_pool.specs.Handles.{PoolName}
use Rattle.arrivals.specs.Boxes.{HasLeft}
use Rattle.arrivals.specs.Receives.{IsReceived, CanGoOn, IsAllReceived, Unreceived}
use Rattle.arrivals.proofs.ReceivedRows.{received_more, unreceived_on, took_all}
use Rattle.arrivals.proofs.OnEach.{on_more, on_done}
use Rattle.arrivals.proofs.receiving.task.ReceivingLentTask.step.Goals as goal
use Rattle.dia_edge.proofs.Results.{IfErr-map}

pub returns-clause-ready : goal.returns-clause-ready
returns-clause-ready g c =
    let was = c.requires.ready in
    let work = c.args.self.now in
    let r0 = work.reader_was.value in
    let s0 = work.sink_was.value in
    let q = c.push_rows.new.reader in
    let t = c.push_rows.new.sink in
    let goes = c.push_rows.ensures.goes in
    on_more c.push_rows.result _ _ _ (CanGoOn g.S.RowSink r0 s0 q c.push_rows.new.pinned t c.push_rows.new.hand)
    (λ received can pinned.
    let P : PoolName → Type 0 = λ pool. IsReceived g.S.RowSink pool r0.kinds (HasLeft r0) s0 q t in
    record {
      can = can;
      pinned_is = pinned;
      received = subst P (sym goes.follows.pool) (received_more g.S.RowSink c.laws_of.ensures r0.kinds (HasLeft r0) c.args.hand.now.pool work.reader q s0 work.sink t was.kinds was.received received);
      kinds = goes.kinds ∙ was.kinds;
    }) c.push_rows.ensures.received c.push_rows.ensures.can c.push_rows.ensures.pinned

pub returns-clause-done : goal.returns-clause-done
returns-clause-done g c =
    let was = c.requires.ready in
    let work = c.args.self.now in
    let r0 = work.reader_was.value in
    let s0 = work.sink_was.value in
    let q = c.push_rows.new.reader in
    let t = c.push_rows.new.sink in
    let hand = c.push_rows.new.hand in
    let goes = c.push_rows.ensures.goes in
    on_done c.push_rows.result _ _ (IsAllReceived g.S.RowSink r0 s0 q t hand)
    (λ received end.
    let P : PoolName → Type 0 = λ pool. IsReceived g.S.RowSink pool r0.kinds (HasLeft r0) s0 q t in
    let some : 0 < length q.kinds = subst (λ (ks : List Kind). 0 < length ks) (sym goes.kinds) was.can.some in
    let all = subst P (sym goes.follows.pool) (received_more g.S.RowSink c.laws_of.ensures r0.kinds (HasLeft r0) c.args.hand.now.pool work.reader q s0 work.sink t was.kinds was.received received) in
    record {
      all = took_all g.S.RowSink c.laws_of.ensures r0.kinds (HasLeft r0) hand.pool q s0 t some all end.0;
      none = end.0;
      can = end.1;
    }) c.push_rows.ensures.received c.push_rows.ensures.end

pub returns-clause-faulted : goal.returns-clause-faulted
returns-clause-faulted g c =
    let was = c.requires.ready in
    let work = c.args.self.now in
    let r0 = work.reader_was.value in
    let s0 = work.sink_was.value in
    let q = c.push_rows.new.reader in
    let t = c.push_rows.new.sink in
    let hand = c.push_rows.new.hand in
    IfErr-map c.push_rows.result _ (λ e. Unreceived g.S.RowSink r0.kinds (HasLeft r0) s0 c.args.hand.now e q t hand)
    (λ e unreceived. unreceived_on g.S.RowSink c.laws_of.ensures r0.kinds (HasLeft r0) work.reader q s0 work.sink t c.args.hand.now hand e was.kinds was.received unreceived)
    c.push_rows.ensures.unreceived

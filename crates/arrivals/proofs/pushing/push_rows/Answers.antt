use Rattle.std.proofs.Common.{rules, ◌≡◌, false, subst, arith}
use Rattle.block_pool.specs.Handles.{PoolName}
use Rattle.lop_chain.specs.Rows.{Kinds}
use Rattle.mix_stream.specs.Reading.{pins}
use Rattle.arrivals.specs.Boxes.{HasLeft}
use Rattle.arrivals.specs.Steps.{IsPinned, IsPushed, IsAtEnd, NotPushed}
use Rattle.arrivals.specs.Receives.{IsReceived, Goes, HoldsStill}
use Rattle.arrivals.specs.ReceiveLaws.{goes_refl, goes_trans}
use Rattle.arrivals.proofs.ReceivedRows.{row_fewer, received_start, received_end, received_one, received_more, unreceived_one, unreceived_more, serves_on, can_go_on}
use Rattle.arrivals.proofs.pushing.push_rows.Goals as goal

pub loop-row-init : goal.loop-row-init
loop-row-init g c = record {
  received = received_start g.S.RowSink c.laws_of.ensures c.args.hand.now.pool c.args.reader.now c.args.sink.now c.requires.can.is_open;
  goes = goes_refl g.S.RowSink c.laws_of.ensures.stays_refl c.args.reader.now c.args.sink.now c.args.hand.now;
  can = c.requires.can;
  pinned_is = c.requires.pinned;
  count = omega arith;
}

pub returns-in-Ok-true-clause-unreceived : goal.returns-in-Ok-true-clause-unreceived
returns-in-Ok-true-clause-unreceived g c =
    let i = c.loop-row.invariant in
    let r = c.loop-row.reader in
    let q = c.push_row.new.reader in
    let s = c.loop-row.sink in
    let t = c.push_row.new.sink in
    let step = c.push_row.ensures.step in
    let pushed : IsPushed g.S.RowSink r s c.loop-row.hand q t c.push_row.new.hand = search rules in
    let accepts : (kinds : Kinds) → g.S.RowSink.accepts s kinds → g.S.RowSink.accepts t kinds = search rules in
    let accepted : (kinds : Kinds) → g.S.RowSink.accepts t kinds → g.S.RowSink.accepts s kinds = search rules in
    let is_open : g.S.RowSink.is_shut t ≡ false = search rules in
    let one = received_one g.S.RowSink c.laws_of.ensures r q s t c.loop-row.hand c.push_row.new.hand i.can.some step.kinds pushed accepts accepted is_open in
    let P : PoolName → Type 0 = λ pool. IsReceived g.S.RowSink pool r.kinds (HasLeft r) s q t in
    received_more g.S.RowSink c.laws_of.ensures c.args.reader.now.kinds (HasLeft c.args.reader.now) c.args.hand.now.pool r q c.args.sink.now s t i.goes.kinds i.received (subst P i.goes.follows.pool one)

pub returns-in-Ok-false-clause-received : goal.returns-in-Ok-false-clause-received
returns-in-Ok-false-clause-received g c =
    let i = c.loop-row.invariant in
    let r = c.loop-row.reader in
    let q = c.push_row.new.reader in
    let s = c.loop-row.sink in
    let t = c.push_row.new.sink in
    let step = c.push_row.ensures.step in
    let end : IsAtEnd r s c.loop-row.hand q t c.push_row.new.hand = search rules in
    let none = received_end g.S.RowSink c.laws_of.ensures r q s t c.loop-row.hand c.push_row.new.hand step.kinds end i.can.is_open in
    let P : PoolName → Type 0 = λ pool. IsReceived g.S.RowSink pool r.kinds (HasLeft r) s q t in
    received_more g.S.RowSink c.laws_of.ensures c.args.reader.now.kinds (HasLeft c.args.reader.now) c.args.hand.now.pool r q c.args.sink.now s t i.goes.kinds i.received (subst P i.goes.follows.pool none)

pub returns-in-Err-clause-unreceived : goal.returns-in-Err-clause-unreceived
returns-in-Err-clause-unreceived g c =
    let i = c.loop-row.invariant in
    let r = c.loop-row.reader in
    let q = c.push_row.new.reader in
    let s = c.loop-row.sink in
    let t = c.push_row.new.sink in
    let step = c.push_row.ensures.step in
    let refused : NotPushed g.S.RowSink r s c.loop-row.hand c.in-Err.refusal q t c.push_row.new.hand = search rules in
    let here = unreceived_one g.S.RowSink c.laws_of.ensures r q s t c.loop-row.hand c.push_row.new.hand c.in-Err.refusal i.can.some step.kinds i.can.is_open refused in
    unreceived_more g.S.RowSink c.laws_of.ensures i.can.rests c.args.reader.now r q c.args.sink.now s t c.args.hand.now c.loop-row.hand c.push_row.new.hand c.in-Err.refusal i.goes i.received here

pub loop-row-preserved : goal.loop-row-preserved
loop-row-preserved g c =
    let i = c.loop-row.invariant in
    let r = c.loop-row.reader in
    let q = c.push_row.new.reader in
    let s = c.loop-row.sink in
    let t = c.push_row.new.sink in
    let a = c.loop-row.hand in
    let b = c.push_row.new.hand in
    let step = c.push_row.ensures.step in
    let laws = c.laws_of.ensures in
    let pushed : IsPushed g.S.RowSink r s a q t b = search rules in
    let accepts : (kinds : Kinds) → g.S.RowSink.accepts s kinds → g.S.RowSink.accepts t kinds = search rules in
    let accepted : (kinds : Kinds) → g.S.RowSink.accepts t kinds → g.S.RowSink.accepts s kinds = search rules in
    let is_open : g.S.RowSink.is_shut t ≡ false = search rules in
    let held : HoldsStill g.S.RowSink r s a q t b = search rules in
    let pinned : IsPinned c.push_row.new.pinned q = search rules in
    let one : pins q ≡ 1 = search rules in
    let here = received_one g.S.RowSink laws r q s t a b i.can.some step.kinds pushed accepts accepted is_open in
    let P : PoolName → Type 0 = λ pool. IsReceived g.S.RowSink pool r.kinds (HasLeft r) s q t in
    let goes : Goes g.S.RowSink r s a q t b = record {
      follows = step.follows;
      kinds = step.kinds;
      stays = step.stays;
      own = λ own. step.own;
      held = λ is_open. (i.can.is_open, held);
    } in
    let less = row_fewer g.S.RowSink r q s t a b i.can.some pushed in
    let before = i.count in
    record {
      received = received_more g.S.RowSink laws c.args.reader.now.kinds (HasLeft c.args.reader.now) c.args.hand.now.pool r q c.args.sink.now s t i.goes.kinds i.received (subst P i.goes.follows.pool here);
      goes = goes_trans g.S.RowSink laws.stays_trans c.args.reader.now r q c.args.sink.now s t c.args.hand.now a b i.goes goes;
      can = can_go_on g.S.RowSink laws r q s t a b i.can step.kinds step.own accepts (serves_on g.S.RowSink laws i.can.rests q t b one pushed.serves) is_open;
      pinned_is = pinned;
      count = omega arith;
    }

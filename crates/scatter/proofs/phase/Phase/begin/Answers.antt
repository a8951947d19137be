use Rattle.std.proofs.Common.{rules, ◌≡◌, length, map, sym, subst, ◌∙◌, arith, vec_len}
use Rattle.std.specs.Prelude.{All}
use Rattle.std.proofs.lemmas.List.{length-map}
use Rattle.block_pool.specs.Handles.{HandValue}
use Rattle.lop_chain.specs.Operands.{root_in}
use Rattle.lop_chain.specs.Ops.{ops_in}
use Rattle.scatter.specs.Feeds.{FeedValue}
use Rattle.scatter.specs.Lines.{IsFedFrom, root_kinds, root_feeds}
use Rattle.scatter.specs.Stocks.{lines_of, FeedsAreInPools}
use Rattle.scatter.specs.Phases.{AllThree, HasBegun, HasRoomFor, pools_of, file_kept}
use Rattle.scatter.specs.Begun.{IsNew}
use Rattle.scatter.proofs.Rooted.{root_new, root_ops, GoesThrough}
use Rattle.scatter.proofs.Turns.{begun_own, begun_keeps, can_all}
use Rattle.scatter.proofs.phase.Phase.begin.Goals as goal

pub returns-clause-begun : goal.returns-clause-begun
returns-clause-begun g c =
    let root = root_in c.args.operand.now.root in
    let ops = ops_in c.args.operand.now.chain.items in
    let lines = lines_of c.args.stock.now in
    let hands = c.args.hands.now.items in
    let fs = c.in_ok-feeds.feeds.items in
    let ss = c.args.sinks.now.items in
    let ws = c.pair_all.new.sends.items in
    let fw : c.of-feeds_were.result.value ≡ c.in_ok-feeds.feeds = c.of-feeds_were.ensures in
    let sw : c.of-sinks_were.result.value ≡ c.args.sinks.now = c.of-sinks_were.ensures in
    let bw : c.of-began.result.value ≡ c.pair_all.new.sends = c.of-began.ensures in
    let hw : c.of-hands_were.result.value ≡ c.args.hands.now = c.of-hands_were.ensures in
    let stw : c.of-stock_was.result.value ≡ c.args.stock.now = c.of-stock_was.ensures in
    let works : AllThree HasBegun fs ss ws = subst (λ v. AllThree HasBegun fs v.items ws) c.replace.ensures.value c.pair_all.ensures.begun in
    let feeds : fs ≡ root_feeds lines c.args.stock.now.workers root c.args.last ops = c.in_ok-feeds.ensures.feeds in
    let new : All IsNew fs = subst (λ l. All IsNew l) (sym feeds) (root_new lines c.args.stock.now.workers root c.args.last ops) in
    let long : length (pools_of hands) ≡ c.args.stock.now.workers = length-map hands (λ (a : HandValue). a.pool) ∙ (let n = c.requires.long.0 in omega arith) in
    let own : FeedsAreInPools (pools_of hands) fs = c.in_ok-feeds.ensures.own (pools_of hands) long c.requires.own in
    let fed : IsFedFrom lines root c.args.last (lines_of c.feeds.new.self) = search rules in
    let room : HasRoomFor c.len-2.result c.in_ok-back.back = c.in_ok-back.ensures in
    let count : vec_len c.in_ok-feeds.feeds ≡ c.args.stock.now.workers = c.in_ok-feeds.ensures.count in
    let sinks = c.requires.long.1 in
    let many : c.len-2.result ≡ vec_len c.args.sinks.now = search rules in
    let keeps : map file_kept ws ≡ map (λ (f : FeedValue). f.keeps) fs = begun_keeps fs ss ws works in
    record {
      works = rw (fw, sw, bw) works;
      ops = ops;
      feeds = rw (fw, stw) feeds;
      new = rw fw new;
      own = rw (bw, hw) (begun_own fs ss ws hands works own);
      room = rw fw (record {
        no_hands = room.no_hands;
        no_parts = room.no_parts;
        no_sinks = room.no_sinks;
        for_hands = let n = room.for_hands in omega arith;
        for_parts = let n = room.for_parts in omega arith;
        for_sinks = let n = room.for_sinks in omega arith;
      });
      rests = c.requires.rests;
      had = rw stw c.requires.root;
      fed = rw stw fed;
      lent = rw (bw, keeps) c.in_ok-feeds.ensures.lent;
    }

pub returns-clause-ready : goal.returns-clause-ready
returns-clause-ready g c =
    let root = root_in c.args.operand.now.root in
    let ops = ops_in c.args.operand.now.chain.items in
    let lines = lines_of c.args.stock.now in
    let hands = c.args.hands.now.items in
    let fs = c.in_ok-feeds.feeds.items in
    let ss = c.args.sinks.now.items in
    let ws = c.pair_all.new.sends.items in
    let works : AllThree HasBegun fs ss ws = subst (λ v. AllThree HasBegun fs v.items ws) c.replace.ensures.value c.pair_all.ensures.begun in
    let feeds : fs ≡ root_feeds lines c.args.stock.now.workers root c.args.last ops = c.in_ok-feeds.ensures.feeds in
    let new : All IsNew fs = subst (λ l. All IsNew l) (sym feeds) (root_new lines c.args.stock.now.workers root c.args.last ops) in
    let through : All (GoesThrough ops) fs = subst (λ l. All (GoesThrough ops) l) (sym feeds) (root_ops lines c.args.stock.now.workers root c.args.last ops) in
    let long : length (pools_of hands) ≡ c.args.stock.now.workers = length-map hands (λ (a : HandValue). a.pool) ∙ (let n = c.requires.long.0 in omega arith) in
    let own : FeedsAreInPools (pools_of hands) fs = c.in_ok-feeds.ensures.own (pools_of hands) long c.requires.own in
    let can = c.requires.can in
    can_all g.S.RowSink c.laws_of.ensures c.requires.rests (root_kinds lines root) can.0 ops can.1 fs ss ws hands works c.in_ok-feeds.ensures.kinds through new own can.2

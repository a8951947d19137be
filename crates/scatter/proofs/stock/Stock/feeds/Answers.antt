use Rattle.lop_chain.specs.declared.script_op.ScriptOp.{ScriptOp}
use Rattle.std.proofs.Common.{rules, arith, ◌≡◌, ℕ, ◌<◌, List, length, map, sym, ap, ◌∙◌, subst}
use Rattle.std.specs.Prelude.{All}
use Rattle.std.specs.List.{AllZip}
use Rattle.lop_chain.specs.Operands.{root_in}
use Rattle.lop_chain.specs.Ops.{ops_in}
use Rattle.scatter.specs.Feeds.{FeedValue}
use Rattle.scatter.specs.Lines.{LineValue, AreChainsOf, lines_in, HasRoot, IsFedFrom, root_feeds, root_kinds}
use Rattle.scatter.specs.Stocks.{StockValue, stock_value, lines_of, IsToRestore, IsLine, AreLines, IsPartOf, FeedsAreInPools}
use Rattle.std.specs.BTreeMap.{BTreeMap}
use Rattle.scatter.specs.declared.line.Line.{Line}
use Rattle.dia_edge.proofs.Results.{IfOk-map, IfOk-with, OnOk-map, on_each}
use Rattle.scatter.proofs.Rooted.{feed_rows, FeedHasKinds, root_count, root_kinds_are, root_rows_are, root_pools, fed_still, lent_line, lent_pools, to_restore}
use Rattle.scatter.proofs.stock.Stock.feeds.Goals as goal

pub returns-clause-feeds : goal.returns-clause-feeds
returns-clause-feeds g c =
    let root = root_in c.args.operand.now.root in
    let ops = ops_in c.args.operand.now.chain.items in
    let T : List ScriptOp → Type 0 = λ list. AreChainsOf (ops_in list) c.in_ok-chains.chains.items in
    let same : c.as_slice.result.now ≡ c.args.operand.now.chain.items = search rules in
    IfOk-map c.feed_root.result _ (λ feeds. feeds.items ≡ root_feeds (lines_of c.args.self.now) c.args.self.now.workers root c.args.last ops) (λ feeds exact.
    let P : ℕ → Type 0 = λ n. feeds.items ≡ root_feeds (lines_in c.self.inside.lines) n root c.args.last ops in
    let Q : StockValue g.row.X.Denot → Type 0 = λ s. feeds.items ≡ root_feeds (lines_of s) s.workers root c.args.last ops in
    subst Q c.self.view_is (subst P c.in_ok-chains.ensures.len (exact ops (subst T same c.in_ok-chains.ensures.ops)))) c.feed_root.ensures.feeds

pub returns-clause-rows : goal.returns-clause-rows
returns-clause-rows g c =
    let P : StockValue g.row.X.Denot → Type 0 = λ s. AreLines s.workers (lines_of s) in
    let Q : StockValue g.row.X.Denot → Type 0 = λ s. 0 < s.workers in
    IfOk-map c.feed_root.result _ _ (λ feeds is.
    ap feed_rows is ∙ root_rows_are (lines_of c.args.self.now) c.args.self.now.workers (subst P c.self.view_is c.self.invariant.lines) c.args.last (ops_in c.args.operand.now.chain.items)
    (subst Q c.self.view_is c.self.invariant.some) (root_in c.args.operand.now.root)) (returns-clause-feeds g c)

pub returns-clause-kinds : goal.returns-clause-kinds
returns-clause-kinds g c =
    let root = root_in c.args.operand.now.root in
    let P : StockValue g.row.X.Denot → Type 0 = λ s. AreLines s.workers (lines_of s) in
    IfOk-map c.feed_root.result _ _ (λ feeds is.
    let Q : List FeedValue → Type 0 = λ fs. All (FeedHasKinds (root_kinds (lines_of c.args.self.now) root)) fs in
    subst Q (sym is) (root_kinds_are (lines_of c.args.self.now) c.args.self.now.workers (subst P c.self.view_is c.self.invariant.lines) c.args.last (ops_in c.args.operand.now.chain.items) root c.requires)) (returns-clause-feeds g c)

pub returns-clause-count : goal.returns-clause-count
returns-clause-count g c =
    let P : StockValue g.row.X.Denot → Type 0 = λ s. AreLines s.workers (lines_of s) in
    IfOk-map c.feed_root.result _ _ (λ feeds is.
    let count = root_count (lines_of c.args.self.now) c.args.self.now.workers (subst P c.self.view_is c.self.invariant.lines) c.args.last (ops_in c.args.operand.now.chain.items) (root_in c.args.operand.now.root) c.requires in
    let long : length feeds.items ≡ c.args.self.now.workers = ap length is ∙ count in
    omega arith) (returns-clause-feeds g c)

pub returns-clause-own : goal.returns-clause-own
returns-clause-own g c =
    let P : StockValue g.row.X.Denot → Type 0 = λ s. AreLines s.workers (lines_of s) in
    IfOk-map c.feed_root.result _ _ (λ feeds is pools len all.
    let Q : List FeedValue → Type 0 = λ fs. FeedsAreInPools pools fs in
    subst Q (sym is) (root_pools (lines_of c.args.self.now) c.args.self.now.workers (subst P c.self.view_is c.self.invariant.lines) c.args.last (ops_in c.args.operand.now.chain.items) pools len all (root_in c.args.operand.now.root) c.requires)) (returns-clause-feeds g c)

pub invariant_of-self : goal.invariant_of-self
invariant_of-self g c =
    let root = root_in c.args.operand.now.root in
    let workers = c.self.inside.workers in
    let H : StockValue g.row.X.Denot → Type 0 = λ s. HasRoot (lines_of s) root in
    let has : HasRoot (lines_in c.self.inside.lines) root = subst H (sym c.self.view_is) c.requires in
    let Q : BTreeMap ℕ Line → Type 0 = λ lines. AreLines workers (lines_in lines) in
    record {
      some = c.self.invariant.some;
      lines = on_each c.feed_root.result _ _ (Q c.feed_root.new.lines)
          (λ fed. fed_still (IsLine workers) (lent_line workers) (lines_in c.self.inside.lines) (lines_in c.feed_root.new.lines) root c.args.last has fed c.self.invariant.lines)
          (λ same. subst Q (sym same) c.self.invariant.lines) c.feed_root.ensures.lines c.feed_root.ensures.err;
    }

pub returns-clause-pools : goal.returns-clause-pools
returns-clause-pools g c =
    let root = root_in c.args.operand.now.root in
    let G : StockValue g.row.X.Denot → Type 0 = λ s. IsFedFrom (lines_of s) root c.args.last (lines_in c.feed_root.new.lines) in
    OnOk-map c.feed_root.result _ _ (λ fed pools all.
    let P : LineValue → Type 0 = λ line. AllZip IsPartOf pools line.parts in
    fed_still P (λ line zip. lent_pools pools line.parts zip) (lines_of c.args.self.now) (lines_in c.feed_root.new.lines) root c.args.last c.requires (subst G c.self.view_is fed) all) c.feed_root.ensures.lines

pub returns-clause-lent : goal.returns-clause-lent
returns-clause-lent g c =
    let root = root_in c.args.operand.now.root in
    let ops = ops_in c.args.operand.now.chain.items in
    let last = c.args.last in
    let P : StockValue g.row.X.Denot → Type 0 = λ s. AreLines s.workers (lines_of s) in
    let G : StockValue g.row.X.Denot → Type 0 = λ s. IsFedFrom (lines_of s) root last (lines_in c.feed_root.new.lines) in
    let W : StockValue g.row.X.Denot → List FeedValue → Type 0 = λ s feeds. IsToRestore root last (lines_in c.feed_root.new.lines) s.workers (map (λ (f : FeedValue). f.keeps) feeds) in
    IfOk-with c.feed_root.result _ (λ feeds. W (stock_value c.self.inside) feeds.items) _ (λ feeds is fed.
    let there = to_restore (lines_of c.args.self.now) (lines_in c.feed_root.new.lines) c.args.self.now.workers ops root last (subst P c.self.view_is c.self.invariant.lines) c.requires (subst G c.self.view_is fed) in
    subst (λ s. W s feeds.items) (sym c.self.view_is) (subst (W c.args.self.now) (sym is) there)) (returns-clause-feeds g c) c.feed_root.ensures.lines

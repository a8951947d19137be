use Rattle.std.proofs.Common.{rules, ◌≡◌, ◌<◌, Err, map, ap, subst, ◌∙◌, length}
use Rattle.std.specs.Prelude.{All}
use Rattle.std.specs.List.{sum_by}
use Rattle.row_defs.specs.Limits.{most_rows}
use Rattle.lop_chain.specs.Operands.{root_in}
use Rattle.lop_chain.specs.Ops.{ops_in}
use Rattle.scatter.specs.Stocks.{lines_of}
use Rattle.scatter.specs.Told.{arriving}
use Rattle.feed_actions.specs.Counting.{rows_counted}
use Rattle.scatter.proofs.Arriving.{permits_same}
use Rattle.scatter.proofs.Hands.{follow_refl}
use Rattle.feed_actions.proofs.Counts.{counted_all, refused_by}
use Rattle.feed_counts.proofs.Each.{ranks_joined, each_counted}
use Rattle.feed_counts.proofs.by_rank.rows_by_rank.Goals as goal

pub returns-in-Err-clause-joined : goal.returns-in-Err-clause-joined
returns-in-Err-clause-joined g c = ranks_joined (lines_of c.args.stock.now) c.args.stock.now.workers (root_in c.args.operand.now.root) _ (ops_in c.args.operand.now.chain.items) c.joined.ensures

pub returns-in_err-count_phase-clause-joined : goal.returns-in_err-count_phase-clause-joined
returns-in_err-count_phase-clause-joined g c = ranks_joined (lines_of c.args.stock.now) c.args.stock.now.workers (root_in c.args.operand.now.root) _ (ops_in c.args.operand.now.chain.items) c.joined.ensures

pub returns-in-Ok-few-clause-joined : goal.returns-in-Ok-few-clause-joined
returns-in-Ok-few-clause-joined g c = ranks_joined (lines_of c.args.stock.now) c.args.stock.now.workers (root_in c.args.operand.now.root) _ (ops_in c.args.operand.now.chain.items) c.joined.ensures

pub returns-clause-joined : goal.returns-clause-joined
returns-clause-joined g c = ranks_joined (lines_of c.args.stock.now) c.args.stock.now.workers (root_in c.args.operand.now.root) _ (ops_in c.args.operand.now.chain.items) c.joined.ensures

pub returns-in-Err-clause-follows : goal.returns-in-Err-clause-follows
returns-in-Err-clause-follows g c = follow_refl c.args.hands.now.items

pub returns-in_err-count_phase-clause-refused : goal.returns-in_err-count_phase-clause-refused
returns-in_err-count_phase-clause-refused g c =
    let stock = c.args.stock.now in
    let operand = c.args.operand.now in
    let sinks = c.in-Ok.ready.0.items in
    let none : All (λ s. rows_counted s ≡ 0) sinks = λ k d below. (c.in-Ok.ensures.fresh k d below).0 in
    let e = c.in_err-count_phase.field-0.0 in
    let same : c.from_residual.result ≡ Err e = search rules in
    rw same
    (refused_by _ rows_counted (λ s t rows p. p) (λ s a row e u b p. p) (lines_of stock) stock.workers (root_in operand.root) _ (ops_in operand.chain.items)
    sinks c.args.hands.now.items c.count_phase.new.counters.items c.count_phase.new.hands.items c.joined.ensures none e c.in_err-count_phase.ensures.stopped)

pub returns-in-Ok-few-clause-counts : goal.returns-in-Ok-few-clause-counts
returns-in-Ok-few-clause-counts g c = λ told.
    let stock = c.args.stock.now in
    let operand = c.args.operand.now in
    let sinks = c.in-Ok.ready.0.items in
    let none : All (λ s. rows_counted s ≡ 0) sinks = λ k d below. (c.in-Ok.ensures.fresh k d below).0 in
    let each = each_counted _ rows_counted (λ s t rows p. p) (lines_of stock) stock.workers (root_in operand.root) _ (ops_in operand.chain.items) sinks c.args.hands.now.items c.count_phase.new.counters.items
    c.count_phase.new.hands.items none c.in_ok-count_phase.ensures.sent told in
    c.counts_of.ensures ∙ ap (map rows_counted) c.as_slice-in-Ok-few.ensures.value ∙ each

pub returns-in-Ok-few-clause-permits : goal.returns-in-Ok-few-clause-permits
returns-in-Ok-few-clause-permits g c =
    let sent = c.in_ok-count_phase.ensures.sent in
    permits_same _ (λ s t a b p. p) sent.turns c.args.hands.now.items c.count_phase.new.hands.items sent.are.hands_are sent.all

pub returns-clause-refused : goal.returns-clause-refused
returns-clause-refused g c = λ told.
    let stock = c.args.stock.now in
    let operand = c.args.operand.now in
    let sinks = c.in-Ok.ready.0.items in
    let none : All (λ s. rows_counted s ≡ 0) sinks = λ k d below. (c.in-Ok.ensures.fresh k d below).0 in
    let all = counted_all _ rows_counted (λ s t rows p. p) (λ s a row e u b p. p) (lines_of stock) stock.workers (root_in operand.root) _ (ops_in operand.chain.items)
    sinks c.args.hands.now.items c.count_phase.new.counters.items c.count_phase.new.hands.items c.joined.ensures none c.in_ok-count_phase.ensures.sent told in
    let n : c.counted_in_all.result ≡ length (arriving (lines_of stock) (root_in operand.root) (ops_in operand.chain.items)) = c.counted_in_all.ensures ∙ ap (sum_by rows_counted) c.as_slice.ensures.value ∙ all in
    let many : most_rows < c.counted_in_all.result = search rules in
    subst (λ m. most_rows < m) n many

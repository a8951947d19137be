use Rattle.std.proofs.Common.{rules, ◌≡◌, ◌<◌, ◌≤◌, ◌%◌, ◌^◌, Err, ap, subst, ◌∙◌, length}
use Rattle.std.specs.Prelude.{All}
use Rattle.std.specs.List.{sum_by}
use Rattle.row_defs.specs.Limits.{most_rows}
use Rattle.lop_chain.specs.Operands.{root_in}
use Rattle.lop_chain.specs.Ops.{ops_in}
use Rattle.scatter.specs.Stocks.{lines_of}
use Rattle.scatter.specs.Told.{arriving}
use Rattle.feed_actions.specs.Adding.{rows_added, sum_in, column_in}
use Rattle.scatter.proofs.Arriving.{permits_same}
use Rattle.scatter.proofs.Hands.{follow_refl}
use Rattle.feed_actions.proofs.Counts.{counted_all, refused_by}
use Rattle.feed_actions.proofs.TurnSums.{summed_all}
use Rattle.feed_actions.proofs.adding.sum_all.Goals as goal

pub returns-in-Err-clause-follows : goal.returns-in-Err-clause-follows
returns-in-Err-clause-follows g c = follow_refl c.args.hands.now.items

pub returns-in-Err-summers_for-clause-follows : goal.returns-in-Err-summers_for-clause-follows
returns-in-Err-summers_for-clause-follows g c = follow_refl c.args.hands.now.items

pub returns-in_err-sum_phase-clause-refused : goal.returns-in_err-sum_phase-clause-refused
returns-in_err-sum_phase-clause-refused g c =
    let stock = c.args.stock.now in
    let operand = c.args.operand.now in
    let sinks = c.in-Ok.summers.items in
    let none : All (λ s. rows_added s ≡ 0) sinks = λ k d below. (c.in-Ok.ensures.fresh k d below).rows in
    let e = c.in_err-sum_phase.field-0.0 in
    let same : c.from_residual.result ≡ Err e = search rules in
    rw same
    (refused_by _ rows_added (λ s t rows p. p.0) (λ s a row e u b p. p) (lines_of stock) stock.workers (root_in operand.root) c.args.operand.now.last (ops_in operand.chain.items)
    sinks c.args.hands.now.items c.sum_phase.new.summers.items c.sum_phase.new.hands.items c.joined.ensures none e c.in_err-sum_phase.ensures.stopped)

pub returns-in-Ok-few-clause-few : goal.returns-in-Ok-few-clause-few
returns-in-Ok-few-clause-few g c = λ told.
    let stock = c.args.stock.now in
    let operand = c.args.operand.now in
    let sinks = c.in-Ok.summers.items in
    let none : All (λ s. rows_added s ≡ 0) sinks = λ k d below. (c.in-Ok.ensures.fresh k d below).rows in
    let all = counted_all _ rows_added (λ s t rows p. p.0) (λ s a row e u b p. p) (lines_of stock) stock.workers (root_in operand.root) c.args.operand.now.last (ops_in operand.chain.items)
    sinks c.args.hands.now.items c.sum_phase.new.summers.items c.sum_phase.new.hands.items c.joined.ensures none c.in_ok-sum_phase.ensures.sent told in
    let n : c.total.result ≡ length (arriving (lines_of stock) (root_in operand.root) (ops_in operand.chain.items)) = c.total.ensures ∙ ap (sum_by rows_added) c.as_slice.ensures.value ∙ all in
    let few : c.total.result ≤ most_rows = search rules in
    subst (λ m. m ≤ most_rows) n few

pub returns-in-Ok-few-clause-sum : goal.returns-in-Ok-few-clause-sum
returns-in-Ok-few-clause-sum g c = λ told.
    let stock = c.args.stock.now in
    let operand = c.args.operand.now in
    let sinks = c.in-Ok.summers.items in
    let fresh : All (λ s. (sum_in s ≡ 0) × (column_in s ≡ c.args.column)) sinks = λ k d below. ((c.in-Ok.ensures.fresh k d below).sum, (c.in-Ok.ensures.fresh k d below).is_column) in
    let all = summed_all _ sum_in column_in (λ s t rows p. p.1) c.args.column (lines_of stock) stock.workers (root_in operand.root) c.args.operand.now.last (ops_in operand.chain.items)
    sinks c.args.hands.now.items c.sum_phase.new.summers.items c.sum_phase.new.hands.items c.joined.ensures fresh c.in_ok-sum_phase.ensures.sent told in
    let items : c.sum.result ≡ sum_by sum_in c.sum_phase.new.summers.items % 2 ^ 64 = search rules in
    items ∙ all

pub returns-in-Ok-few-clause-permits : goal.returns-in-Ok-few-clause-permits
returns-in-Ok-few-clause-permits g c =
    let sent = c.in_ok-sum_phase.ensures.sent in
    permits_same _ (λ s t a b p. p) sent.turns c.args.hands.now.items c.sum_phase.new.hands.items sent.are.hands_are sent.all

pub returns-clause-refused : goal.returns-clause-refused
returns-clause-refused g c = λ told.
    let stock = c.args.stock.now in
    let operand = c.args.operand.now in
    let sinks = c.in-Ok.summers.items in
    let none : All (λ s. rows_added s ≡ 0) sinks = λ k d below. (c.in-Ok.ensures.fresh k d below).rows in
    let all = counted_all _ rows_added (λ s t rows p. p.0) (λ s a row e u b p. p) (lines_of stock) stock.workers (root_in operand.root) c.args.operand.now.last (ops_in operand.chain.items)
    sinks c.args.hands.now.items c.sum_phase.new.summers.items c.sum_phase.new.hands.items c.joined.ensures none c.in_ok-sum_phase.ensures.sent told in
    let n : c.total.result ≡ length (arriving (lines_of stock) (root_in operand.root) (ops_in operand.chain.items)) = c.total.ensures ∙ ap (sum_by rows_added) c.as_slice.ensures.value ∙ all in
    let many : most_rows < c.total.result = search rules in
    subst (λ m. most_rows < m) n many

use Rattle.std.proofs.Common.{◌≡◌, ℕ, List, length, sym, ap, subst, ◌∙◌, if◌then◌else◌}
use Rattle.row_defs.specs.Limits.{longest_text}
use Rattle.lop_chain.specs.Operands.{root_in}
use Rattle.lop_chain.specs.Ops.{ops_in, rows_from}
use Rattle.lop_chain.specs.declared.script_op.ScriptOp.{ScriptOp}
use Rattle.row_growth.specs.Growth.{growth, words_within, are_even, extent, TellsExtent}
use Rattle.row_growth.specs.declared.growing.Extent.TheVariants.{Exactly, AtMost}
use Rattle.row_growth.proofs.GrowthLemmas.{still_left}
use Rattle.scatter.specs.Lines.{root_rows}
use Rattle.scatter.specs.Stocks.{lines_of}
use Rattle.feed_actions.proofs.Fitting.{rows_within}
use Rattle.feed_actions.proofs.known.known_extent.Goals as goal

pub returns-clause-value : goal.returns-clause-value
returns-clause-value g c =
    let ops = ops_in c.args.operand.now.chain.items in
    let rows = root_rows (lines_of c.args.stock.now) (root_in c.args.operand.now.root) in
    let Is : List ScriptOp → Type 0 = λ list. c.extent_of.result ≡ extent c.row_count-rows.result longest_text (ops_in list) in
    subst Is c.as_slice.ensures.value c.extent_of.ensures.value
    ∙ ap (λ (n : ℕ). extent n longest_text ops) c.row_count-rows.ensures.len
    ∙ ap (λ (made : ℕ). if are_even ops then Exactly made else AtMost made) (still_left (length rows) (growth (words_within longest_text) ops))

pub returns-clause-tells : goal.returns-clause-tells
returns-clause-tells g c =
    let rows = root_rows (lines_of c.args.stock.now) (root_in c.args.operand.now.root) in
    let Tells : List ScriptOp → Type 0 = λ list. TellsExtent c.extent_of.result (length (rows_from (ops_in list) rows)) in
    subst Tells c.as_slice.ensures.value (c.extent_of.ensures.tells rows (sym c.row_count-rows.ensures.len) (rows_within rows c.row_count-rows.ensures.fit))

use Rattle.std.proofs.Common.{OnOk, IfErr, sym, subst}
use Rattle.dia_edge.specs.Sinks.{TookAll}
use Rattle.script_defs.specs.Runs.{text_of_rows}
use Rattle.script_read.specs.declared.statement.Action as statements
use Rattle.script_read.specs.Statements.{action_in}
use Rattle.lop_chain.specs.Operands.{root_in}
use Rattle.lop_chain.specs.Ops.{ops_in}
use Rattle.scatter.specs.Stocks.{lines_of}
use Rattle.scatter.specs.Told.{AreTold, arriving}
use Rattle.dia_edge.proofs.Results.{IfErr-map}
use Rattle.feed_actions.specs.Acting.{ActRefused, sum_text}
use Rattle.actions.specs.Acting.{ActStopped}
use Rattle.actions.proofs.Stops.{number_stops}
use Rattle.actions.proofs.action.act.Goals as goal

pub returns-in-Sum-clause-text : goal.returns-in-Sum-clause-text
returns-in-Sum-clause-text g c =
    let root = root_in c.args.operand.now.root in
    let rows = arriving (lines_of c.args.stock.now) root (ops_in c.args.operand.now.chain.items) in
    let Of : statements.Action → Type 0 = λ a.
    OnOk c.sum.result (AreTold root c.args.hands.now.items → TookAll (g.S.Sink.taken c.args.out.now) (text_of_rows (action_in a) rows) (g.S.Sink.taken c.sum.new.out)) in
    subst Of (sym c.in-Sum.is) c.sum.ensures.text

pub returns-in-Sum-clause-refused : goal.returns-in-Sum-clause-refused
returns-in-Sum-clause-refused g c =
    let lines = lines_of c.args.stock.now in
    let root = root_in c.args.operand.now.root in
    let ops = ops_in c.args.operand.now.chain.items in
    let hands = c.args.hands.now.items in
    let later = c.sum.new.hands.items in
    let old = c.args.out.now in
    let new = c.sum.new.out in
    let text = sum_text c.in-Sum.column in
    let Of : statements.Action → Type 0 = λ a. IfErr c.sum.result (ActStopped g.S.Sink lines root ops (text_of_rows (action_in a)) hands later old new) in
    subst Of (sym c.in-Sum.is) (IfErr-map c.sum.result (ActRefused g.S.Sink lines root ops text hands later old new) (ActStopped g.S.Sink lines root ops text hands later old new)
    (number_stops g.S.Sink root ops text lines hands later old new) c.sum.ensures.refused)

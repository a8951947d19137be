-- A feed may be moved to another thread, since each of its parts may.
use denote.Param.Send.{IsSend, sendable}
use Rattle.std.proofs.Crossing.{crosses}
use Rattle.atomic_table.proofs.badge.Badge.TheSendSync as badge
use Rattle.dia_expr.proofs.expr.Expr.TheLaws.TheKnot.{hole_send-Expr}
use Rattle.dia_expr.proofs.node.Node.TheLaws.TheKnot.{hole_send-Node}
use Rattle.dia_expr.specs.contracts.expr.Expr as expr
use Rattle.dia_expr.specs.contracts.node.Node as node
use Rattle.dia_expr.specs.contracts.formula.Formula as formula
use Rattle.lop_chain.specs.contracts.number_column.NumberColumn as number_column
use Rattle.lop_chain.specs.contracts.columns.Columns as columns
use Rattle.lop_chain.specs.contracts.step.Step as step
use Rattle.lop_chain.specs.contracts.chain.Chain as chain
use Rattle.dia_file.specs.contracts.keep.KeepReader as keep_reader
use Rattle.dia_file.specs.contracts.consume.ConsumeReader as consume_reader
use Rattle.scatter.specs.contracts.steps.Numbers as numbers
use Rattle.scatter.specs.contracts.feed.Source as source
use Rattle.scatter.specs.contracts.feed.Feed as feed

expr_send : IsSend expr.the_field.row
expr_send = search (sendable, crosses, hole_send-Expr) depth 60 fits 100000

node_send : IsSend expr.the_field.row → IsSend node.the_field.row
node_send e = search (sendable, crosses, hole_send-Node) depth 60 fits 100000

formula_send : IsSend expr.the_field.row → IsSend node.the_field.row → IsSend formula.the_field.row
formula_send e n = search (sendable, crosses) depth 30

number_column_send : IsSend formula.the_field.row → IsSend number_column.the_field.row
number_column_send f = search (sendable, crosses) depth 30

columns_send : IsSend number_column.the_field.row → IsSend expr.the_field.row → IsSend columns.the_field.row
columns_send n e = search (sendable, crosses) depth 30

step_send : IsSend columns.the_field.row → IsSend formula.the_field.row → IsSend step.the_field.row
step_send c f = search (sendable, crosses) depth 30

with_step : IsSend step.the_field.row → IsSend chain.the_field.row
with_step s = search (sendable, crosses) depth 30

chain_send : IsSend chain.the_field.row
chain_send =
    let f = formula_send expr_send (node_send expr_send) in
    with_step (step_send (columns_send (number_column_send f) expr_send) f)

keep_reader_send : IsSend keep_reader.the_field.row
keep_reader_send = search (sendable, crosses, badge.the_send) depth 60 fits 100000

consume_reader_send : IsSend consume_reader.the_field.row
consume_reader_send = search (sendable, crosses, badge.the_send) depth 60 fits 100000

numbers_send : IsSend numbers.the_field.row
numbers_send = search (sendable, crosses) depth 60 fits 100000

source_send : IsSend keep_reader.the_field.row → IsSend consume_reader.the_field.row → IsSend numbers.the_field.row → IsSend source.the_field.row
source_send k c n = search (sendable, crosses) depth 30

with_source : IsSend source.the_field.row → IsSend chain.the_field.row → IsSend feed.the_field.row
with_source s c = search (sendable, crosses) depth 30

pub feed_send : IsSend feed.the_field.row
feed_send = with_source (source_send keep_reader_send consume_reader_send numbers_send) chain_send

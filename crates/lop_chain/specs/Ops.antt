-- The local lines of the definitions that code stands for.
use Rattle.std.specs.Prelude.{List, map}
use Rattle.std.specs.List.{flat_map}
use Rattle.row_defs.specs.Rows.{Row}
use Rattle.row_defs.specs.Values.{Expr, value_of}
use Rattle.row_defs.specs.LocalOps.{LocalOp, map_op, filter_op, words_op, spread_op, rows_through}
use Rattle.dia_expr.specs.Exprs.{expr_in}
use Rattle.dia_expr.specs.declared.expr.Expr as exprs
use Rattle.lop_chain.specs.declared.script_op.ScriptOp.{ScriptOp}
use Rattle.lop_chain.specs.declared.script_op.ScriptOp.TheVariants.{Map, Filter, Words, Spread}

abbrev pub exprs_in : List exprs.Expr → List Expr
exprs_in exprs = map expr_in exprs

abbrev pub op_in : ScriptOp → LocalOp
op_in (Map exprs) = map_op (exprs_in exprs.items)
op_in (Filter e) = filter_op (expr_in e)
op_in (Words c) = words_op c
op_in (Spread c count) = spread_op c count

abbrev pub ops_in : List ScriptOp → List LocalOp
ops_in ops = map op_in ops

-- the row that a map makes
abbrev pub values_of : List Expr → Row → Row
values_of exprs row = map (λ e. value_of e row) exprs

-- the rows that come of these rows
abbrev pub rows_from : List LocalOp → List Row → List Row
rows_from ops rows = flat_map (rows_through ops) rows

use Rattle.std.proofs.Common.{◌≡◌, take}
use Rattle.lop_chain.specs.Ops.{exprs_in}
use Rattle.lop_chain.specs.Columns.{numbers_in}
use Rattle.lop_chain.proofs.columns.number_columns.Given as goal

abbrev pub invariant-loop-expr : goal.invariant-loop-expr
invariant-loop-expr l = numbers_in l.columns.items ≡ exprs_in (take l.expr-index l.exprs)

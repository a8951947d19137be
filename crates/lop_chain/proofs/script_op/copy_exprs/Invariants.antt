use Rattle.std.proofs.Common.{◌≡◌, take}
use Rattle.lop_chain.specs.Ops.{exprs_in}
use Rattle.lop_chain.proofs.script_op.copy_exprs.Given as goal

abbrev pub invariant-loop-expr : goal.invariant-loop-expr
invariant-loop-expr l = exprs_in l.copies.items ≡ exprs_in (take l.expr-index l.exprs)

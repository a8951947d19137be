use Rattle.std.proofs.Common.{◌≡◌, map, take}
use Rattle.lop_chain.specs.Ops.{exprs_in}
use Rattle.row_growth.specs.Growth.{words_of}
use Rattle.row_growth.proofs.growing.words_of_each.Given as goal

abbrev pub invariant-loop-expr : goal.invariant-loop-expr
invariant-loop-expr l = l.made.items ≡ map (words_of l.bounds) (exprs_in (take l.expr-index l.expr-items))

-- The expression that is made ready.
use Rattle.row_defs.specs.Values.{Expr}
use Rattle.dia_expr.specs.declared.formula.Formula.{Formula}
use Rattle.dia_expr.specs.Exprs.{expr_in}

abbrev pub formula_in : Formula → Expr
formula_in f = expr_in f.expr

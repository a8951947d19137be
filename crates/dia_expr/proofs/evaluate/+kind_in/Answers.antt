use Rattle.dia_expr.specs.Exprs.{expr_in}
use Rattle.dia_expr.proofs.KindLemmas.{same_kind}
use Rattle.dia_expr.proofs.evaluate.+kind_in.Goals as goal

pub returns-in-If : goal.returns-in-If
returns-in-If t c =
    same_kind _ (expr_in c.in-If.x.value) (expr_in c.args.expr.now) c.requires.0 _
    (rw c.in-If.is at c.requires.1).1 (rw c.deref.ensures at c.kind_in.ensures) c.requires.1

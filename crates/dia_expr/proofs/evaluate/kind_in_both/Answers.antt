use Rattle.dia_expr.specs.Exprs.{expr_in}
use Rattle.dia_expr.proofs.KindLemmas.{same_kind}
use Rattle.dia_expr.proofs.evaluate.kind_in_both.Goals as goal

pub returns-clause-y : goal.returns-clause-y
returns-clause-y c =
    same_kind _ (expr_in c.args.x.now) (expr_in c.args.y.now) c.requires.0 _ c.requires.1 c.kind_in.ensures c.requires.2

use Rattle.dia_expr.proofs.KindLemmas.{HasKind-some}
use Rattle.dia_expr.proofs.evaluate.eval_ref.Goals as goal

pub kind_in-requires : goal.kind_in-requires
kind_in-requires c = HasKind-some _ _ c.requires.kind

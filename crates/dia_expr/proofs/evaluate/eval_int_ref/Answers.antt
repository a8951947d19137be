use Rattle.dia_expr.proofs.KindLemmas.{HasKind-from}
use Rattle.dia_expr.proofs.evaluate.eval_int_ref.Goals as goal

pub int_of-requires : goal.int_of-requires
int_of-requires c = HasKind-from _ _ _ c.requires

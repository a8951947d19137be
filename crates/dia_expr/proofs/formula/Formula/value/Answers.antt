use Rattle.dia_expr.proofs.KindLemmas.{HasKind-from}
use Rattle.dia_expr.proofs.formula.Formula.value.Goals as goal

pub node_value-requires : goal.node_value-requires
node_value-requires c = HasKind-from _ _ _ (c.args.self.now.computes.kind _ c.requires)

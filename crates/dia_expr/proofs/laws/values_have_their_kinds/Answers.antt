use Rattle.dia_expr.proofs.ValueLemmas.{value_kind-from}
use Rattle.dia_expr.proofs.laws.values_have_their_kinds.Goals as goal

pub returns : goal.returns
returns c = value_kind-from

use Rattle.dia_expr.proofs.SpellingLemmas.{one_read_again}
use Rattle.dia_expr.proofs.laws.an_expression_is_read_again.Goals as goal

pub returns : goal.returns
returns c = one_read_again

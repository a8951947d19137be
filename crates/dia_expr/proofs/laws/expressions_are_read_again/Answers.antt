use Rattle.dia_expr.proofs.SpellingLemmas.{all_read_again}
use Rattle.dia_expr.proofs.laws.expressions_are_read_again.Goals as goal

pub returns : goal.returns
returns c = all_read_again

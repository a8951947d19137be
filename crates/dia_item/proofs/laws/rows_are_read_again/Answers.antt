use Rattle.dia_item.proofs.LawLemmas.{read_again}
use Rattle.dia_item.proofs.laws.rows_are_read_again.Goals as goal

pub returns : goal.returns
returns c = read_again

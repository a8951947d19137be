use Rattle.dia_item.proofs.LawLemmas.{have_kinds}
use Rattle.dia_item.proofs.laws.rows_have_their_kinds.Goals as goal

pub returns : goal.returns
returns c = have_kinds

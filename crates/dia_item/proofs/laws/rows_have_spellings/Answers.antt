use Rattle.dia_item.proofs.LawLemmas.{have_spellings}
use Rattle.dia_item.proofs.laws.rows_have_spellings.Goals as goal

pub returns : goal.returns
returns c = have_spellings

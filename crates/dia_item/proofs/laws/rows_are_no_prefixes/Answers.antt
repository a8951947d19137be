use Rattle.dia_item.proofs.LawLemmas.{no_prefixes}
use Rattle.dia_item.proofs.laws.rows_are_no_prefixes.Goals as goal

pub returns : goal.returns
returns c = no_prefixes

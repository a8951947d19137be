use Rattle.dia_item.proofs.LawLemmas.{spelled_once}
use Rattle.dia_item.proofs.laws.rows_are_spelled_once.Goals as goal

pub returns : goal.returns
returns c = spelled_once

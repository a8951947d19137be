use Rattle.piece_laws.proofs.WordLemmas.{only_line_words}
use Rattle.piece_laws.proofs.laws.no_other_words.Goals as goal

pub returns : goal.returns
returns c = only_line_words

use Rattle.piece_laws.proofs.WordLemmas.{only_text_words}
use Rattle.piece_laws.proofs.laws.no_other_text_words.Goals as goal

pub returns : goal.returns
returns c = only_text_words

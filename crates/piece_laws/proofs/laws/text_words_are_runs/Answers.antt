use Rattle.piece_laws.proofs.WordLemmas.{text_words}
use Rattle.piece_laws.proofs.laws.text_words_are_runs.Goals as goal

pub returns : goal.returns
returns c = text_words

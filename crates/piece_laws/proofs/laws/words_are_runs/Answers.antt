use Rattle.piece_laws.proofs.WordLemmas.{line_words}
use Rattle.piece_laws.proofs.laws.words_are_runs.Goals as goal

pub returns : goal.returns
returns c = line_words

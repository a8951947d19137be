use Rattle.piece_laws.proofs.LineLemmas.{lines_of_bytes}
use Rattle.piece_laws.proofs.laws.lines_are_bytes.Goals as goal

pub returns : goal.returns
returns c = lines_of_bytes

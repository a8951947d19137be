use Rattle.piece_laws.proofs.LineLemmas.{no_other_lines}
use Rattle.piece_laws.proofs.laws.no_other_lines.Goals as goal

pub returns : goal.returns
returns c = no_other_lines

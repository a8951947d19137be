use Rattle.stage_laws.proofs.ItemLemmas.{line_keeps}
use Rattle.stage_laws.proofs.laws.line_keeps.Goals as goal

pub returns : goal.returns
returns c = line_keeps

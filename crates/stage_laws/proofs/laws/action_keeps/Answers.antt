use Rattle.stage_laws.proofs.ActionLemmas.{action_keeps}
use Rattle.stage_laws.proofs.laws.action_keeps.Goals as goal

pub returns : goal.returns
returns c = action_keeps

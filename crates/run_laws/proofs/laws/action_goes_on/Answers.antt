use Rattle.run_laws.proofs.RunLemmas.{action_goes_on}
use Rattle.run_laws.proofs.laws.action_goes_on.Goals as goal

pub returns : goal.returns
returns c = action_goes_on

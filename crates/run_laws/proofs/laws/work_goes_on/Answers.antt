use Rattle.run_laws.proofs.RunLemmas.{goes_on}
use Rattle.run_laws.proofs.laws.work_goes_on.Goals as goal

pub returns : goal.returns
returns c = goes_on

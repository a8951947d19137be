use Rattle.run_laws.proofs.RunLemmas.{roots_are_done}
use Rattle.run_laws.proofs.laws.roots_are_done.Goals as goal

pub returns : goal.returns
returns c = roots_are_done

use Rattle.run_laws.proofs.RunLemmas.{chains_make}
use Rattle.run_laws.proofs.laws.chains_make.Goals as goal

pub returns : goal.returns
returns c = chains_make

use Rattle.run_laws.proofs.RunLemmas.{line_goes_on}
use Rattle.run_laws.proofs.laws.line_goes_on.Goals as goal

pub returns : goal.returns
returns c = line_goes_on

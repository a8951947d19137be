use Rattle.run_laws.proofs.RunLemmas.{runs_are_runs}
use Rattle.run_laws.proofs.laws.runs_are_runs.Goals as goal

pub returns : goal.returns
returns c = runs_are_runs

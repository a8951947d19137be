use Rattle.work_laws.proofs.NeededLemmas.{work_is_needed}
use Rattle.work_laws.proofs.laws.work_is_needed.Goals as goal

pub returns : goal.returns
returns c = work_is_needed

use Rattle.stage_laws.proofs.NeedLemmas.{plan_reads}
use Rattle.stage_laws.proofs.laws.plan_reads_what_is_needed.Goals as goal

pub returns : goal.returns
returns c = plan_reads

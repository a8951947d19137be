use Rattle.pool_defs.proofs.Steps.{run_keeps_content}
use Rattle.pool_defs.proofs.laws.contents_stay.Goals as goal

pub returns : goal.returns
returns c = run_keeps_content

use Rattle.pool_defs.proofs.Steps.{step_keeps_out}
use Rattle.pool_defs.proofs.laws.out_stays.Goals as goal

pub returns-clause-bytes : goal.returns-clause-bytes
returns-clause-bytes c = step_keeps_out

pub returns-clause-lengths : goal.returns-clause-lengths
returns-clause-lengths c = step_keeps_out

use Rattle.std.proofs.Common.{ℕ, List}
use Rattle.pool_defs.proofs.Valid.{opened_valid, step_valid}
use Rattle.pool_defs.proofs.laws.valid_stays.Goals as goal

pub returns-clause-bytes : goal.returns-clause-bytes
returns-clause-bytes c = (opened_valid (List ℕ), step_valid)

pub returns-clause-lengths : goal.returns-clause-lengths
returns-clause-lengths c = (opened_valid ℕ, step_valid)

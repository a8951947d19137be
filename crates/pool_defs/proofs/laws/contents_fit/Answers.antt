use Rattle.pool_defs.proofs.Fit.{fit}
use Rattle.pool_defs.proofs.laws.contents_fit.Goals as goal

pub returns : goal.returns
returns c = λ pool most ids valid short pairs live. fit pool most ids valid short pairs

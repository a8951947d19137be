use Rattle.std.specs.Prelude.{IsTrue}
use Rattle.stage_laws.proofs.StageLemmas.{nothing_is_done}
use Rattle.stage_laws.proofs.laws.nothing_is_done.Goals as goal

pub returns : goal.returns
returns c = λ test. nothing_is_done (λ rows. IsTrue (test rows))

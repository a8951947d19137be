use Rattle.std.specs.Prelude.{IsTrue}
use Rattle.stage_laws.proofs.StageLemmas.{stage_goes_on}
use Rattle.stage_laws.proofs.laws.stage_goes_on.Goals as goal

pub returns : goal.returns
returns c = λ test test_now. stage_goes_on (λ rows. IsTrue (test rows)) (λ rows. IsTrue (test_now rows))

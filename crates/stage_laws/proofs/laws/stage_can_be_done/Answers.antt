use Rattle.std.specs.Prelude.{IsTrue}
use Rattle.stage_laws.proofs.StageLemmas.{stage_can_be_done}
use Rattle.stage_laws.proofs.laws.stage_can_be_done.Goals as goal

pub returns : goal.returns
returns c = λ test. stage_can_be_done (λ rows. IsTrue (test rows))

use Rattle.std.specs.Prelude.{IsTrue}
use Rattle.stage_laws.proofs.ActionLemmas.{action_has_too_many}
use Rattle.stage_laws.proofs.laws.action_has_too_many.Goals as goal

pub returns : goal.returns
returns c = λ test. action_has_too_many (λ rows. IsTrue (test rows))

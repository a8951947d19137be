use Rattle.std.specs.Prelude.{IsTrue}
use Rattle.stage_laws.proofs.ActionLemmas.{action_is_done}
use Rattle.stage_laws.proofs.laws.action_is_done.Goals as goal

pub returns : goal.returns
returns c = λ test test_now. action_is_done (λ rows. IsTrue (test rows)) (λ rows. IsTrue (test_now rows))

use Rattle.std.specs.Prelude.{IsTrue}
use Rattle.stage_laws.proofs.ActionLemmas.{action_is_cut_off}
use Rattle.stage_laws.proofs.laws.action_is_cut_off.Goals as goal

pub returns : goal.returns
returns c = λ test. action_is_cut_off (λ rows. IsTrue (test rows))

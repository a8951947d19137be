use Rattle.std.specs.Prelude.{IsTrue}
use Rattle.stage_laws.proofs.StageLemmas.{plan_ends}
use Rattle.stage_laws.proofs.laws.plan_ends.Goals as goal

pub returns : goal.returns
returns c = λ test. plan_ends (λ rows. IsTrue (test rows))

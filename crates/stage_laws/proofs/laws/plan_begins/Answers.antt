use Rattle.std.specs.Prelude.{IsTrue}
use Rattle.stage_laws.proofs.StageLemmas.{plan_begins}
use Rattle.stage_laws.proofs.laws.plan_begins.Goals as goal

pub returns : goal.returns
returns c = λ test. plan_begins (λ rows. IsTrue (test rows))

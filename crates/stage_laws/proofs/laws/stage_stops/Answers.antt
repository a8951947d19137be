use Rattle.std.specs.Prelude.{IsTrue}
use Rattle.stage_laws.proofs.StageLemmas.{stage_stops}
use Rattle.stage_laws.proofs.laws.stage_stops.Goals as goal

pub returns : goal.returns
returns c = λ test. stage_stops (λ rows. IsTrue (test rows))

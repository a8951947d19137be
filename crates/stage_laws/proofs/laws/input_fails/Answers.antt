use Rattle.std.specs.Prelude.{IsTrue}
use Rattle.stage_laws.proofs.ItemLemmas.{input_fails}
use Rattle.stage_laws.proofs.laws.input_fails.Goals as goal

pub returns : goal.returns
returns c = λ test. input_fails (λ rows. IsTrue (test rows))

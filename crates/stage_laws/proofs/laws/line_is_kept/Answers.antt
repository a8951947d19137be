use Rattle.std.specs.Prelude.{IsTrue}
use Rattle.stage_laws.proofs.ItemLemmas.{line_is_kept}
use Rattle.stage_laws.proofs.laws.line_is_kept.Goals as goal

pub returns : goal.returns
returns c = λ test test_now. line_is_kept (λ rows. IsTrue (test rows)) (λ rows. IsTrue (test_now rows))

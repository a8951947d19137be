use Rattle.std.specs.Prelude.{IsTrue}
use Rattle.stage_laws.proofs.CacheLemmas.{cache_has_too_many}
use Rattle.stage_laws.proofs.laws.cache_has_too_many.Goals as goal

pub returns : goal.returns
returns c = λ test. cache_has_too_many (λ rows. IsTrue (test rows))

use Rattle.stage_laws.proofs.CacheLemmas.{cache_keeps}
use Rattle.stage_laws.proofs.laws.cache_keeps.Goals as goal

pub returns : goal.returns
returns c = cache_keeps

use Rattle.stage_laws.proofs.CacheLemmas.{cache_has_rows}
use Rattle.stage_laws.proofs.laws.cache_has_rows.Goals as goal

pub returns : goal.returns
returns c = cache_has_rows

use Rattle.std.specs.Prelude.{IsTrue}
use Rattle.stage_laws.proofs.ItemLemmas.{item_is_cut_off}
use Rattle.stage_laws.proofs.laws.item_is_cut_off.Goals as goal

pub returns : goal.returns
returns c = λ test. item_is_cut_off (λ rows. IsTrue (test rows))

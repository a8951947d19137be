use Rattle.std.proofs.Common.{sym}
use Rattle.fold_defs.specs.Folds.{combined}
use Rattle.reducer.specs.Laws.{combined-assoc, combined-comm}
use Rattle.reducer.proofs.FoldLemmas.{folded-permutation}
use Rattle.reducer.proofs.laws.folds_in_any_order.Goals as goal

pub returns : goal.returns
returns c = λ by xs ys e h. sym (folded-permutation (combined by) (combined-assoc by) (combined-comm by e) xs ys h)

use Rattle.fold_defs.specs.Folds.{combined}
use Rattle.reducer.specs.Laws.{combined-assoc}
use Rattle.reducer.proofs.FoldLemmas.{folded-append}
use Rattle.reducer.proofs.laws.folds_of_parts.Goals as goal

pub returns : goal.returns
returns c = λ by xs ys. folded-append (combined by) (combined-assoc by) xs ys

use Rattle.reducer.proofs.ColumnLemmas.{folds_by_column}
use Rattle.reducer.proofs.laws.folds_by_column.Goals as goal

pub returns : goal.returns
returns c = folds_by_column

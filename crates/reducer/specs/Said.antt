-- What folds keep.
use Rattle.std.specs.Prelude.{◌≡◌, ℕ, true, List, [], ◌∷◌, ◌++◌, length, Option, None, Some, IsPermutation, slice_get}
use Rattle.std.specs.List.{AllByRecursion, filter_map}
use Rattle.row_defs.specs.Rows.{Cell, Row}
use Rattle.fold_defs.specs.declared.named.Named.{Named}
use Rattle.fold_defs.specs.Folds.{combined, commuting, folded, fold_of, joined}
use Rattle.fold_defs.specs.Reduced.{cells_combined, IsReduced}
use Rattle.reducer.specs.OneMore.{with_row}

-- folds of two parts come to the fold of the whole
abbrev pub FoldsOfParts : Type 0
FoldsOfParts = (by : Named) (xs ys : List Cell) → fold_of by (xs ++ ys) ≡ joined (combined by) (fold_of by xs) (fold_of by ys)

-- where a reducer commutes, the order doesn't matter
abbrev pub FoldsInAnyOrder : Type 0
FoldsInAnyOrder = (by : Named) (xs ys : List Cell) → commuting by ≡ true → IsPermutation xs ys → fold_of by ys ≡ fold_of by xs

-- a column of what rows come to
abbrev pub column_in : ℕ → Option Row → Option Cell
column_in i None = None
column_in i (Some row) = slice_get row i

-- rows are folded column by column, each column by its own reducer
abbrev pub FoldsByColumn : Type 0
FoldsByColumn =
    (by : List Named) (rows : List Row) (i : ℕ) (one : Named) → slice_get by i ≡ Some one → AllByRecursion (λ (row : Row). length row ≡ length by) rows
    → column_in i (folded (cells_combined by) rows) ≡ fold_of one (filter_map (λ (row : Row). slice_get row i) rows)

-- the rows so far, and one more
abbrev pub ReducesMore : Type 0
ReducesMore = (k : ℕ) (by : List Named) (rows out : List Row) (row : Row) → IsReduced k by rows out → IsReduced k by (rows ++ row ∷ []) (with_row k by out row)

-- what parts come to may be reduced once more
abbrev pub ReducesParts : Type 0
ReducesParts =
    (k : ℕ) (by : List Named) (rows more one other out : List Row)
    → IsReduced k by rows one → IsReduced k by more other → IsReduced k by (one ++ other) out → IsReduced k by (rows ++ more) out

-- where all reducers commute, the order of the rows doesn't matter
abbrev pub ReducesInAnyOrder : Type 0
ReducesInAnyOrder =
    (k : ℕ) (by : List Named) (rows moved out : List Row) → AllByRecursion (λ r. commuting r ≡ true) by
    → IsPermutation rows moved → IsReduced k by rows out → IsReduced k by moved out

-- the order of the result is free
abbrev pub ReducesToAnyOrder : Type 0
ReducesToAnyOrder = (k : ℕ) (by : List Named) (rows out moved : List Row) → IsPermutation out moved → IsReduced k by rows out → IsReduced k by rows moved

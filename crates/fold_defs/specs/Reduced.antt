-- What a list of rows comes to by key.
use Rattle.std.specs.Prelude.{◌≡◌, ℕ, Bool, List, [], ◌∷◌, drop, map, filter, Option, None, Some}
use Rattle.std.specs.Ordering.{eq_by_cmp}
use Rattle.row_defs.specs.Rows.{Row, row_cmp, key_of}
use Rattle.fold_defs.specs.declared.named.Named.{Named}
use Rattle.fold_defs.specs.Folds.{combined, folded}

-- column by column, by the reducer of each
abbrev pub cells_combined : List Named → Row → Row → Row
cells_combined [] ls rs = []
cells_combined (by ∷ more) [] rs = rs
cells_combined (by ∷ more) (l ∷ ls) [] = l ∷ ls
cells_combined (by ∷ more) (l ∷ ls) (r ∷ rs) = combined by l r ∷ cells_combined more ls rs

abbrev pub has_key : ℕ → Row → Row → Bool
has_key k key row = eq_by_cmp row_cmp (key_of k row) key

-- the further columns of the rows of a key, in order
abbrev pub rests : ℕ → Row → List Row → List Row
rests k key rows = map (drop k) (filter (has_key k key) rows)

abbrev pub one_or_none : {X : Type 0} → Option X → List X
one_or_none None = []
one_or_none (Some x) = x ∷ []

-- each key of the rows once, with the folds of its further columns, and no other key
abbrev pub IsReduced : ℕ → List Named → List Row → List Row → Type 0
IsReduced k by rows out = (key : Row) → rests k key out ≡ one_or_none (folded (cells_combined by) (rests k key rows))

-- Rows reduced by key, and one row more.
use Rattle.std.specs.Prelude.{ℕ, zero, suc, List, [], ◌∷◌, drop, if◌then◌else◌}
use Rattle.row_defs.specs.Rows.{Row, key_of}
use Rattle.fold_defs.specs.declared.named.Named.{Named}
use Rattle.fold_defs.specs.Reduced.{cells_combined, has_key}

-- a row, with another of its key
abbrev pub row_combined : ℕ → List Named → Row → Row → Row
row_combined zero by l r = cells_combined by l r
row_combined (suc k) by [] r = []
row_combined (suc k) by (x ∷ l) r = x ∷ row_combined k by l (drop 1 r)

-- with one row more: it goes into the row of its key, or to the end
abbrev pub with_row : ℕ → List Named → List Row → Row → List Row
with_row k by [] row = row ∷ []
with_row k by (r ∷ rs) row = if has_key k (key_of k row) r then row_combined k by r row ∷ rs else r ∷ with_row k by rs row

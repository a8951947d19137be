-- The bytes of rows.
use Rattle.std.specs.Prelude.{◌≡◌, ℕ, zero, suc, List, [], ◌∷◌, ◌++◌, length, drop}
use Rattle.std.specs.List.{flat_map, AllByRecursion}
use Rattle.row_defs.specs.declared.kind.Kind.{Kind}
use Rattle.row_defs.specs.Rows.{Cell, int, text, Row, Fits, IsRow, bytes_of_u64, bytes_of_u32}
use Rattle.dia_item.specs.Reading.{row_of}

-- the one spelling of a cell, of a row, and of rows one after the other
abbrev pub spelled_cell : Cell → List ℕ
spelled_cell (int n) = bytes_of_u64 n
spelled_cell (text t) = bytes_of_u32 (length t) ++ t

unfoldable pub spelled : Row → List ℕ
spelled row = flat_map spelled_cell row

abbrev pub encoded : List Row → List ℕ
encoded rows = flat_map spelled rows

-- rows of these kinds, whose cells are in their limits
abbrev pub AreOf : List Kind → List Row → Type 0
AreOf kinds rows = AllByRecursion (λ row. IsRow kinds (spelled row) row) rows

-- rows whose numbers and texts are no larger than a row's may be
abbrev pub AllFit : List Row → Type 0
AllFit rows = AllByRecursion (AllByRecursion Fits) rows

-- the first n rows that the bytes hold
unfoldable pub rows_of : List Kind → ℕ → List ℕ → List Row
rows_of kinds zero bytes = []
rows_of kinds (suc n) bytes = row_of kinds bytes ∷ rows_of kinds n (drop (length (spelled (row_of kinds bytes))) bytes)

-- a row that is read at the front of bytes: where these begin with the spelling of a row it is that row, and the rest is what follows
pub record ReadsRow (kinds : List Kind) (before : List ℕ) (row : Row) (after : List ℕ) : Type 0 where
  pub reads : (r : Row) (rest : List ℕ) → IsRow kinds (spelled r) r → before ≡ spelled r ++ rest → (row ≡ r) × (after ≡ rest)

-- no row begins the bytes
abbrev pub HoldsNone : List Kind → List ℕ → Type 0
HoldsNone kinds bytes = (r : Row) (rest : List ℕ) → IsRow kinds (spelled r) r → bytes ≡ spelled r ++ rest → ⊥

-- the same with the length of the row in place of what follows it
pub record ReadsLong (kinds : List Kind) (before : List ℕ) (row : Row) (n : ℕ) : Type 0 where
  pub reads : (r : Row) (rest : List ℕ) → IsRow kinds (spelled r) r → before ≡ spelled r ++ rest → (row ≡ r) × (n ≡ length (spelled r))

-- Rows are folded column by column.
use Rattle.std.proofs.Common.{◌≡◌, ℕ, zero, suc, List, [], ◌∷◌, length, fold, Some, slice_get, refl, ap, arith}
use Rattle.std.specs.List.{AllByRecursion, filter_map}
use Rattle.row_defs.specs.Rows.{Cell, Row}
use Rattle.fold_defs.specs.declared.named.Named.{Named}
use Rattle.fold_defs.specs.Folds.{combined}
use Rattle.fold_defs.specs.Reduced.{cells_combined}
use Rattle.reducer.specs.Said.{FoldsByColumn}

-- the cell of a column that the row has
at_column : (row : Row) (by : List Named) (i : ℕ) (one : Named) → slice_get by i ≡ Some one → length row ≡ length by → (c : Cell) × (slice_get row i ≡ Some c)
at_column [] [] i one e l = cc
at_column [] (r ∷ by) i one e l = absurd (omega (arith, l))
at_column (c ∷ row) [] i one e l = absurd (omega (arith, l))
at_column (c ∷ row) (r ∷ by) zero one e l = (c, refl)
at_column (c ∷ row) (r ∷ by) (suc i) one e l = at_column row by i one e (omega (arith, l))

-- two rows, at a column
combined_at :
    (by : List Named) (l r : Row) (i : ℕ) (one : Named) (a b : Cell) → slice_get by i ≡ Some one → slice_get l i ≡ Some a → slice_get r i ≡ Some b
    → slice_get (cells_combined by l r) i ≡ Some (combined one a b)
combined_at [] l r i one a b e p q = cc
combined_at (m ∷ by) [] r i one a b e p q = cc
combined_at (m ∷ by) (x ∷ l) [] i one a b e p q = cc
combined_at (m ∷ by) (x ∷ l) (y ∷ r) zero one a b e p q = cc
combined_at (m ∷ by) (x ∷ l) (y ∷ r) (suc i) one a b e p q = combined_at by l r i one a b e p q

combined_length : (by : List Named) (l r : Row) → length l ≡ length by → length r ≡ length by → length (cells_combined by l r) ≡ length by
combined_length [] l r p q = refl
combined_length (m ∷ by) [] r p q = absurd (omega (arith, p))
combined_length (m ∷ by) (x ∷ l) [] p q = absurd (omega (arith, q))
combined_length (m ∷ by) (x ∷ l) (y ∷ r) p q = ap suc (combined_length by l r (omega (arith, p)) (omega (arith, q)))

abbrev HasColumns : List Named → Row → Type 0
HasColumns by row = length row ≡ length by

abbrev cells : ℕ → List Row → List Cell
cells i rows = filter_map (λ (row : Row). slice_get row i) rows

folded_at :
    (by : List Named) (i : ℕ) (one : Named) → slice_get by i ≡ Some one → (rows : List Row) → AllByRecursion (HasColumns by) rows
    → (x : Row) (a : Cell) → length x ≡ length by → slice_get x i ≡ Some a
    → slice_get (fold (cells_combined by) x rows) i ≡ Some (fold (combined one) a (cells i rows))
folded_at by i one e [] all x a l p = p
folded_at by i one e (row ∷ rows) all x a l p =
    let c = at_column row by i one e all.0 in
    rw c.1 (folded_at by i one e rows all.1 (cells_combined by x row) (combined one a c.0) (combined_length by x row l all.0) (combined_at by x row i one a c.0 e p c.1))

pub folds_by_column : FoldsByColumn
folds_by_column by [] i one e all = refl
folds_by_column by (row ∷ rows) i one e all =
    let c = at_column row by i one e all.0 in
    rw c.1 (folded_at by i one e rows all.1 row c.0 all.0 c.1)

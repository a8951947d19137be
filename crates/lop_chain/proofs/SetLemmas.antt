-- A row with one column changed, column by column.
use Rattle.std.proofs.Common.{◌≡◌, ◌≢◌, ℕ, zero, suc, ◌+◌, ◌<◌, [], ◌∷◌, ◌++◌, length, take, slice_get, slice_set, Some, refl, ap, subst, ◌∙◌, add-one, arith}
use Rattle.std.proofs.lemmas.List.{length-map}
use Rattle.std.proofs.lemmas.Option.{slice_get_within}
use Rattle.row_defs.specs.declared.kind.Kind.{Kind}
use Rattle.row_defs.specs.Rows.{Cell, Row, kind_of, kinds_of}

take_next : (xs : Row) (i : ℕ) (x : Cell) → slice_get xs i ≡ Some x → take (suc i) xs ≡ take i xs ++ x ∷ []
take_next [] i x e = absurd cc
take_next (y ∷ ys) zero x e = let s : y ≡ x = cc in ap (λ (z : Cell). z ∷ []) s
take_next (y ∷ ys) (suc i) x e = ap (λ (zs : Row). y ∷ zs) (take_next ys i x e)

get_set_same : (xs : Row) (i : ℕ) (x v : Cell) → slice_get xs i ≡ Some x → slice_get (slice_set xs i v) i ≡ Some v
get_set_same [] i x v e = absurd cc
get_set_same (y ∷ ys) zero x v e = refl
get_set_same (y ∷ ys) (suc i) x v e = get_set_same ys i x v e

get_set_other : (xs : Row) (i j : ℕ) (v : Cell) → i ≢ j → slice_get (slice_set xs j v) i ≡ slice_get xs i
get_set_other [] i j v n = refl
get_set_other (y ∷ ys) zero zero v n = absurd (n refl)
get_set_other (y ∷ ys) zero (suc j) v n = refl
get_set_other (y ∷ ys) (suc i) zero v n = refl
get_set_other (y ∷ ys) (suc i) (suc j) v n = get_set_other ys i j v (λ e. n (ap suc e))

pub set_here : (row : Row) (c i : ℕ) (x v : Cell) → slice_get row i ≡ Some x → i ≡ c → take (i + 1) (slice_set row c v) ≡ take i (slice_set row c v) ++ v ∷ []
set_here row c i x v e here =
    let P : ℕ → Type 0 = λ k. take (i + 1) (slice_set row k v) ≡ take i (slice_set row k v) ++ v ∷ [] in
    subst P here (rw add-one (take_next (slice_set row i v) i v (get_set_same row i x v e)))

pub set_elsewhere : (row : Row) (c i : ℕ) (x v : Cell) → slice_get row i ≡ Some x → i ≢ c → take (i + 1) (slice_set row c v) ≡ take i (slice_set row c v) ++ x ∷ []
set_elsewhere row c i x v e n = rw add-one (take_next (slice_set row c v) i x (get_set_other row i c v n ∙ e))

-- of one column, that one is set
pub set_only : (row : Row) (c : ℕ) (v : Cell) → length row ≡ 1 → c < length row → v ∷ [] ≡ slice_set row c v
set_only [] c v one within = absurd (omega (arith, one))
set_only (x ∷ []) zero v one within = refl
set_only (x ∷ []) (suc c) v one within = absurd (omega (arith, within))
set_only (x ∷ y ∷ row) c v one within = absurd (omega (arith, one))

-- a column that has a kind is there
pub has_column : (row : Row) (c : ℕ) (kind : Kind) → slice_get (kinds_of row) c ≡ Some kind → c < length row
has_column row c kind e = omega (arith, slice_get_within (kinds_of row) c kind e, length-map row kind_of)

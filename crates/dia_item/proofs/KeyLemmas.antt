-- The first columns of a row, and their order.
use Rattle.std.proofs.Common.{◌≡◌, ℕ, true, List, [], ◌∷◌, zero, suc, length, take, drop, refl, sym, ap, ◌∙◌, arith}
use Rattle.std.specs.Ordering.{ordering_then}
use Rattle.std.specs.declared.cmp.Ordering.{Ordering}
use Rattle.std.specs.declared.cmp.Ordering.TheVariants.{Less, Equal, Greater}
use Rattle.row_defs.specs.declared.kind.Kind.{Kind}
use Rattle.row_defs.specs.Rows.{Row, kinds_of, row_cmp, cell_cmp}
use Rattle.dia_item.proofs.TestLemmas.{and_split}
use Rattle.dia_item.specs.Reading.{cell_len, cell_at, row_of, has_row, has_field}

pub key_row : (k : ℕ) (kinds : List Kind) (bytes : List ℕ) → row_of (take k kinds) bytes ≡ take k (row_of kinds bytes)
unfolding row_of
key_row zero kinds bytes = refl
key_row (suc k) [] bytes = refl
key_row (suc k) (kind ∷ kinds) bytes = ap (λ (more : Row). cell_at kind bytes ∷ more) (key_row k kinds (drop (cell_len kind bytes) bytes))

pub key_has : (k : ℕ) (kinds : List Kind) (bytes : List ℕ) → has_row kinds bytes ≡ true → has_row (take k kinds) bytes ≡ true
unfolding has_row
key_has zero kinds bytes e = refl
key_has (suc k) [] bytes e = refl
key_has (suc k) (kind ∷ kinds) bytes e =
    let p = and_split (has_field kind bytes) (has_row kinds (drop (cell_len kind bytes) bytes)) e in
    rw (p.0, key_has k kinds (drop (cell_len kind bytes) bytes) p.1) refl

-- a row whose first columns have these kinds has a row of them at its beginning
pub key_prefix :
    (key : List Kind) (k : ℕ) (kinds : List Kind) (bytes : List ℕ) → key ≡ take k kinds → has_row kinds bytes ≡ true
    → (has_row key bytes ≡ true) × (row_of key bytes ≡ take k (row_of kinds bytes))
key_prefix key k kinds bytes e h = rw e (key_has k kinds bytes h, key_row k kinds bytes)

-- no columns are equal, and else the first decides where it differs
pub cmp_none : (kinds : List Kind) (a b : List ℕ) → length kinds ≡ 0 → Equal ≡ row_cmp (row_of kinds a) (row_of kinds b)
unfolding row_of
cmp_none [] a b e = refl
cmp_none (kind ∷ kinds) a b e = absurd (omega arith)

pub cmp_equal :
    (kind : Kind) (kinds : List Kind) (a b : List ℕ) (r : Ordering) → cell_cmp (cell_at kind a) (cell_at kind b) ≡ Equal
    → r ≡ row_cmp (row_of kinds (drop (cell_len kind a) a)) (row_of kinds (drop (cell_len kind b) b))
    → r ≡ row_cmp (row_of (kind ∷ kinds) a) (row_of (kind ∷ kinds) b)
unfolding row_of
cmp_equal kind kinds a b r e f =
    f ∙ ap (λ (o : Ordering). ordering_then o (row_cmp (row_of kinds (drop (cell_len kind a) a)) (row_of kinds (drop (cell_len kind b) b)))) (sym e)

then_decided : (r s : Ordering) → (r ≡ Equal → ⊥) → r ≡ ordering_then r s
then_decided Less s n = refl
then_decided Equal s n = absurd (n refl)
then_decided Greater s n = refl

pub cmp_decided :
    (kind : Kind) (kinds : List Kind) (a b : List ℕ) (r : Ordering) → r ≡ cell_cmp (cell_at kind a) (cell_at kind b) → (r ≡ Equal → ⊥)
    → r ≡ row_cmp (row_of (kind ∷ kinds) a) (row_of (kind ∷ kinds) b)
unfolding row_of
cmp_decided kind kinds a b r e n =
    let more = row_cmp (row_of kinds (drop (cell_len kind a) a)) (row_of kinds (drop (cell_len kind b) b)) in
    then_decided r more n ∙ ap (λ (o : Ordering). ordering_then o more) e

-- a row whose first columns have the kinds of another row's key has that key's kinds at its beginning
pub key_other :
    (k : ℕ) (key ks others : List Kind) (row : Row) (bytes : List ℕ) → key ≡ take k ks → kinds_of row ≡ ks
    → kinds_of (row_of others bytes) ≡ others → has_row others bytes ≡ true → take k (kinds_of row) ≡ take k (kinds_of (row_of others bytes))
    → (has_row key bytes ≡ true) × (row_of key bytes ≡ take k (row_of others bytes))
key_other k key ks others row bytes is held others_held has same =
    let first : key ≡ take k (kinds_of row) = is ∙ ap (λ (x : List Kind). take k x) (sym held) in
    key_prefix key k others bytes (first ∙ same ∙ ap (λ (x : List Kind). take k x) others_held) has

pub cmp_same : (r : Ordering) (a b row other : Row) → r ≡ row_cmp a b → a ≡ row → b ≡ other → r ≡ row_cmp row other
cmp_same r a b row other e f g = e ∙ ap (λ (x : Row). row_cmp x b) f ∙ ap (λ (x : Row). row_cmp row x) g

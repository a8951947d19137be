-- A walk over the columns of a row, from its beginning.
use Rattle.std.proofs.Common.{◌≡◌, ℕ, ◌+◌, ◌<◌, true, List, [], ◌∷◌, length, take, drop, zero, suc, Some, slice_get, get_or, refl, sym, ap, subst, ◌∙◌, arith}
use Rattle.std.proofs.lemmas.List.{get_or-take, drop-drop}
use Rattle.std.proofs.Math.Seq.{drop-cons}
use Rattle.row_defs.specs.declared.kind.Kind.{Kind}
use Rattle.row_defs.specs.declared.kind.Kind.TheVariants.{Int}
use Rattle.row_defs.specs.Rows.{Row}
use Rattle.dia_item.specs.Reading.{cell_len, cell_at, row_of, has_row, has_field}
use Rattle.dia_item.proofs.TestLemmas.{prefix_has}

-- what is left behind k columns
pub record IsFrom (kinds : List Kind) (bytes : List ℕ) (k : ℕ) (rest : List ℕ) : Type 0 where
  pub has : has_row (drop k kinds) rest ≡ true
  pub row : row_of (drop k kinds) rest ≡ drop k (row_of kinds bytes)

pub kinds_from : (kinds : List Kind) (k : ℕ) → k < length kinds → drop k kinds ≡ get_or kinds k Int ∷ drop (k + 1) kinds
kinds_from kinds k h = let e : k + 1 ≡ suc k = omega arith in rw e (drop-cons kinds k Int h)

row_prefix : (kind : Kind) (kinds : List Kind) (rest : List ℕ) → row_of (kind ∷ kinds) rest ≡ cell_at kind rest ∷ row_of kinds (drop (cell_len kind rest) rest)
unfolding row_of
row_prefix kind kinds rest = refl

-- the column that comes next
pub has_next : (kinds : List Kind) (bytes : List ℕ) (k : ℕ) (rest : List ℕ) → k < length kinds → IsFrom kinds bytes k rest → has_field (get_or kinds k Int) rest ≡ true
has_next kinds bytes k rest h is =
    let Has : List Kind → Type 0 = λ ks. has_row ks rest ≡ true in
    (prefix_has (get_or kinds k Int) (drop (k + 1) kinds) rest (subst Has (kinds_from kinds k h) is.has)).0

-- and what is left behind it
pub from_next : (kinds : List Kind) (bytes : List ℕ) (k : ℕ) (rest : List ℕ) → k < length kinds → IsFrom kinds bytes k rest
    → IsFrom kinds bytes (k + 1) (drop (cell_len (get_or kinds k Int) rest) rest)
from_next kinds bytes k rest h is =
    let kind = get_or kinds k Int in
    let Has : List Kind → Type 0 = λ ks. has_row ks rest ≡ true in
    let parts : drop k (row_of kinds bytes) ≡ cell_at kind rest ∷ row_of (drop (k + 1) kinds) (drop (cell_len kind rest) rest) =
    sym is.row ∙ ap (λ (ks : List Kind). row_of ks rest) (kinds_from kinds k h) ∙ row_prefix kind (drop (k + 1) kinds) rest in
    record {
      has = (prefix_has kind (drop (k + 1) kinds) rest (subst Has (kinds_from kinds k h) is.has)).1;
      row = sym (ap (λ (row : Row). drop 1 row) parts) ∙ drop-drop 1 k (row_of kinds bytes);
    }

get_from : (row : Row) (k : ℕ) → slice_get row k ≡ slice_get (drop k row) 0
get_from row zero = refl
get_from [] (suc k) = refl
get_from (cell ∷ row) (suc k) = get_from row k

-- the cell of the column that comes next
pub cell_next : (kinds : List Kind) (bytes : List ℕ) (k : ℕ) (rest : List ℕ) → k < length kinds → IsFrom kinds bytes k rest
    → slice_get (row_of kinds bytes) k ≡ Some (cell_at (get_or kinds k Int) rest)
cell_next kinds bytes k rest h is =
    let kind = get_or kinds k Int in
    let parts : drop k (row_of kinds bytes) ≡ cell_at kind rest ∷ row_of (drop (k + 1) kinds) (drop (cell_len kind rest) rest) =
    sym is.row ∙ ap (λ (ks : List Kind). row_of ks rest) (kinds_from kinds k h) ∙ row_prefix kind (drop (k + 1) kinds) rest in
    get_from (row_of kinds bytes) k ∙ ap (λ (row : Row). slice_get row 0) parts

-- the kinds that a walk goes over are the first ones
pub kind_taken : (kinds : List Kind) (i k : ℕ) → k < i → get_or (take i kinds) k Int ≡ get_or kinds k Int
kind_taken kinds i k h = get_or-take i kinds k Int h

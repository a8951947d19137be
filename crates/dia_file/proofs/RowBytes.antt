-- Rows are read from their bytes.
use Rattle.std.proofs.Common.{◌≡◌, ℕ, zero, suc, ◌*◌, ◌≤◌, List, [], ◌∷◌, ◌++◌, length, take, drop, refl, sym, ap, subst, ◌∙◌, append_assoc, append-nil, length-append, arith}
use Rattle.std.proofs.lemmas.List.{take_at, drop_at}
use Rattle.row_defs.specs.declared.kind.Kind.{Kind}
use Rattle.row_defs.specs.declared.kind.Kind.TheVariants.{Int, Text}
use Rattle.row_defs.specs.Rows.{Cell, int, text, Row, IsField, IsRow}
use Rattle.dia_item.specs.Reading.{row_of}
use Rattle.dia_item.specs.Sizes.{longest_row}
use Rattle.dia_item.proofs.RowLemmas.{row_reads}
use Rattle.dia_item.proofs.LawLemmas.{row_short, prefix_once}
use Rattle.dia_file.specs.Encoding.{spelled_cell, spelled, encoded, AreOf, rows_of, ReadsRow, ReadsLong, HoldsNone}

cell_is : (kind : Kind) (bytes : List ℕ) (cell : Cell) → IsField kind bytes cell → bytes ≡ spelled_cell cell
cell_is Int bytes (int n) f = f.1
cell_is Int bytes (text t) f = absurd f
cell_is Text bytes (int n) f = absurd f
cell_is Text bytes (text t) f = f.1

-- the bytes of a row are its spelling
pub spelled_is : (kinds : List Kind) (bytes : List ℕ) (row : Row) → IsRow kinds bytes row → bytes ≡ spelled row
unfolding spelled
spelled_is [] bytes row h = rw h.1 h.0
spelled_is (kind ∷ kinds) bytes row h =
    let first : h.2 ≡ spelled_cell h.0 = cell_is kind h.2 h.0 h.4 in
    let rest : h.3 ≡ spelled h.1 = spelled_is kinds h.3 h.1 h.5 in
    rw h.6 (h.7 ∙ ap (λ (xs : List ℕ). xs ++ h.3) first ∙ ap (λ (xs : List ℕ). spelled_cell h.0 ++ xs) rest)

pub is_spelled : (kinds : List Kind) (bytes : List ℕ) (row : Row) → IsRow kinds bytes row → IsRow kinds (spelled row) row
is_spelled kinds bytes row h = let P : List ℕ → Type 0 = λ xs. IsRow kinds xs row in subst P (spelled_is kinds bytes row h) h

-- the rows at the front of their bytes
pub rows_of-encoded : (kinds : List Kind) (rows : List Row) (rest : List ℕ) → AreOf kinds rows → rows_of kinds (length rows) (encoded rows ++ rest) ≡ rows
unfolding rows_of
rows_of-encoded kinds [] rest h = refl
rows_of-encoded kinds (r ∷ rows) rest h =
    let e : (spelled r ++ encoded rows) ++ rest ≡ spelled r ++ (encoded rows ++ rest) = append_assoc (spelled r) (encoded rows) rest in
    let reads : row_of kinds (spelled r ++ (encoded rows ++ rest)) ≡ r = row_reads kinds (spelled r) (encoded rows ++ rest) r h.0 in
    let back : drop (length (spelled r)) (spelled r ++ (encoded rows ++ rest)) ≡ encoded rows ++ rest = drop_at (spelled r) (encoded rows ++ rest) (length (spelled r)) refl in
    rw (e, reads, back, rows_of-encoded kinds rows rest h.1) refl

pub length-rows_of : (kinds : List Kind) (n : ℕ) (bytes : List ℕ) → length (rows_of kinds n bytes) ≡ n
unfolding rows_of
length-rows_of kinds zero bytes = refl
length-rows_of kinds (suc n) bytes = ap suc (length-rows_of kinds n (drop (length (spelled (row_of kinds bytes))) bytes))

pub spelled_short : (kinds : List Kind) (row : Row) → length kinds ≤ 6 → IsRow kinds (spelled row) row → length (spelled row) ≤ longest_row
spelled_short kinds row most h = let short = row_short kinds (spelled row) row h in omega (arith, short, most)

pub are-append : (kinds : List Kind) (xs ys : List Row) → AreOf kinds xs → AreOf kinds ys → AreOf kinds (xs ++ ys)
are-append kinds [] ys p q = q
are-append kinds (x ∷ xs) ys p q = (p.0, are-append kinds xs ys p.1 q)

pub encoded-append : (xs ys : List Row) → encoded (xs ++ ys) ≡ encoded xs ++ encoded ys
encoded-append [] ys = refl
encoded-append (x ∷ xs) ys = ap (λ (zs : List ℕ). spelled x ++ zs) (encoded-append xs ys) ∙ sym (append_assoc (spelled x) (encoded xs) (encoded ys))

pub encoded-one : (row : Row) → encoded (row ∷ []) ≡ spelled row
encoded-one row = append-nil (spelled row)

pub encoded_short : (kinds : List Kind) (rows : List Row) → length kinds ≤ 6 → AreOf kinds rows → length (encoded rows) ≤ longest_row * length rows
encoded_short kinds [] most h = omega arith
encoded_short kinds (r ∷ rows) most h =
    let e = length-append (spelled r) (encoded rows) in
    let one = spelled_short kinds r most h.0 in
    let more = encoded_short kinds rows most h.1 in
    omega (arith, e, one, more)

-- what `read_row` found is the row that the bytes begin with
pub found_reads :
    (kinds : List Kind) (bytes : List ℕ) (row : Row) (n : ℕ) → n ≤ length bytes → IsRow kinds (take n bytes) row → ReadsRow kinds bytes row (drop n bytes)
found_reads kinds bytes row n n_in h = record {
  reads = λ r rest is e.
      let front : take (length (spelled r)) bytes ≡ spelled r = ap (λ (xs : List ℕ). take (length (spelled r)) xs) e ∙ take_at (spelled r) rest (length (spelled r)) refl in
      let P : List ℕ → Type 0 = λ xs. IsRow kinds xs r in
      let m_in : length (spelled r) ≤ length bytes = omega (arith, ap (λ (xs : List ℕ). length xs) e, length-append (spelled r) rest) in
      let same = prefix_once kinds bytes n (length (spelled r)) row r n_in m_in h (subst P (sym front) is) in
      (same.0, ap (λ (k : ℕ). drop k bytes) same.1 ∙ ap (λ (xs : List ℕ). drop (length (spelled r)) xs) e ∙ drop_at (spelled r) rest (length (spelled r)) refl);
}

pub none_held :
    (kinds : List Kind) (bytes : List ℕ) → ((row : Row) (n : ℕ) → IsRow kinds (take n bytes) row → ⊥) → HoldsNone kinds bytes
none_held kinds bytes none r rest is e =
    let front : take (length (spelled r)) bytes ≡ spelled r = ap (λ (xs : List ℕ). take (length (spelled r)) xs) e ∙ take_at (spelled r) rest (length (spelled r)) refl in
    let P : List ℕ → Type 0 = λ xs. IsRow kinds xs r in
    none r (length (spelled r)) (subst P (sym front) is)

pub found_long :
    (kinds : List Kind) (bytes : List ℕ) (row : Row) (n : ℕ) → n ≤ length bytes → IsRow kinds (take n bytes) row → ReadsLong kinds bytes row n
found_long kinds bytes row n n_in h = record {
  reads = λ r rest is e.
      let front : take (length (spelled r)) bytes ≡ spelled r = ap (λ (xs : List ℕ). take (length (spelled r)) xs) e ∙ take_at (spelled r) rest (length (spelled r)) refl in
      let P : List ℕ → Type 0 = λ xs. IsRow kinds xs r in
      let m_in : length (spelled r) ≤ length bytes = omega (arith, ap (λ (xs : List ℕ). length xs) e, length-append (spelled r) rest) in
      prefix_once kinds bytes n (length (spelled r)) row r n_in m_in h (subst P (sym front) is);
}

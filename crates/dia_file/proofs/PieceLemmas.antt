-- Rows in pieces.
use Rattle.std.proofs.Common.{◌≡◌, ℕ, zero, suc, ◌≤◌, ◌<◌, List, [], ◌∷◌, ◌++◌, length, refl, sym, ap, subst, ◌∙◌, append_assoc, append-nil, length-append, arith}
use Rattle.row_defs.specs.declared.kind.Kind.{Kind}
use Rattle.row_defs.specs.Rows.{Row}
use Rattle.dia_item.specs.Sizes.{longest_row}
use Rattle.dia_file.specs.Encoding.{encoded, AreOf, rows_of}
use Rattle.dia_file.specs.Pieces.{Piece, over, rows_in, first_bytes, IsPiece, AreIn}
use Rattle.dia_file.proofs.RowBytes.{rows_of-encoded, length-rows_of, spelled_short}

none_of : (rows : List Row) → length rows ≡ 0 → rows ≡ []
none_of [] e = refl
none_of (r ∷ rows) e = absurd (omega arith)

-- the rows of one piece are those that its bytes hold
piece_rows : (kinds : List Kind) (begun : List ℕ) (p : Piece) (rows : List Row) → IsPiece kinds begun p rows → rows_of kinds p.ends (begun ++ p.bytes) ≡ rows
piece_rows kinds begun p [] h =
    let none : p.ends ≡ 0 = sym h.len in
    let e : rows_of kinds 0 (begun ++ p.bytes) ≡ [] = none_of _ (length-rows_of kinds 0 (begun ++ p.bytes)) in
    ap (λ (n : ℕ). rows_of kinds n (begun ++ p.bytes)) none ∙ e
piece_rows kinds begun p (r ∷ rows) h =
    let some : 0 < p.ends = omega (arith, h.len) in
    let bytes : begun ++ p.bytes ≡ encoded (r ∷ rows) ++ [] = h.bytes some ∙ sym (append-nil (encoded (r ∷ rows))) in
    ap (λ (n : ℕ). rows_of kinds n (begun ++ p.bytes)) (sym h.len)
    ∙ ap (λ (xs : List ℕ). rows_of kinds (length (r ∷ rows)) xs) bytes
    ∙ rows_of-encoded kinds (r ∷ rows) [] h.are

-- the rows of pieces are those that their bytes hold
pub in_rows : (kinds : List Kind) (begun : List ℕ) (ps : List Piece) (rows : List Row) (rest : List ℕ) → AreIn kinds begun ps rows rest → rows_in kinds begun ps ≡ rows
unfolding rows_in
in_rows kinds begun [] rows rest h = sym h.0
in_rows kinds begun (p ∷ ps) rows rest h =
    ap (λ (xs : List Row). xs ++ rows_in kinds (over p.ends (begun ++ p.bytes)) ps) (piece_rows kinds begun p h.0 h.2)
    ∙ ap (λ (xs : List Row). h.0 ++ xs) (in_rows kinds (over p.ends (begun ++ p.bytes)) ps h.1 rest h.3)
    ∙ sym h.4

pub in-append :
    (kinds : List Kind) (a b c : List ℕ) (ps qs : List Piece) (rows more : List Row)
    → AreIn kinds a ps rows b → AreIn kinds b qs more c → AreIn kinds a (ps ++ qs) (rows ++ more) c
in-append kinds a b c [] qs rows more p q =
    let P : List ℕ → Type 0 = λ xs. AreIn kinds xs qs (rows ++ more) c in
    let Q : List Row → Type 0 = λ rs. AreIn kinds b qs (rs ++ more) c in
    subst P p.1 (subst Q (sym p.0) q)
in-append kinds a b c (x ∷ ps) qs rows more p q = (
  p.0,
  p.1 ++ more,
  p.2,
  in-append kinds (over x.ends (a ++ x.bytes)) b c ps qs p.1 more p.3 q,
  ap (λ (rs : List Row). rs ++ more) p.4 ∙ append_assoc p.0 p.1 more,
)

pub in-one : (kinds : List Kind) (begun : List ℕ) (p : Piece) (rows : List Row) → IsPiece kinds begun p rows → AreIn kinds begun (p ∷ []) rows (over p.ends (begun ++ p.bytes))
in-one kinds begun p rows h = (rows, [], h, (refl, refl), sym (append-nil rows))

-- a piece in which no row ends
pub no_rows : (kinds : List Kind) (begun : List ℕ) (p : Piece) → p.ends ≡ 0 → IsPiece kinds begun p []
no_rows kinds begun p none = record { len = sym none; are = tt; bytes = λ some. absurd (omega arith); covers = λ some. absurd (omega arith) }

first_short : (kinds : List Kind) (rows : List Row) → length kinds ≤ 6 → AreOf kinds rows → length (first_bytes rows) ≤ longest_row
first_short kinds [] most h = omega arith
first_short kinds (r ∷ rows) most h = spelled_short kinds r most h.0

begun_short-at :
    (kinds : List Kind) (begun bytes : List ℕ) (n : ℕ) (front : List Row) → length kinds ≤ 6
    → IsPiece kinds begun (record { bytes = bytes; ends = n }) front → length (over n (begun ++ bytes)) ≤ longest_row → length begun ≤ longest_row
begun_short-at kinds begun bytes zero front most h more = omega (arith, length-append begun bytes, more)
begun_short-at kinds begun bytes (suc n) front most h more = let first = first_short kinds front most h.are in omega (arith, h.covers (omega arith), first)

-- what has begun is no longer than a row
pub begun_short :
    (kinds : List Kind) (begun : List ℕ) (ps : List Piece) (rows : List Row) → length kinds ≤ 6 → AreIn kinds begun ps rows [] → length begun ≤ longest_row
begun_short kinds begun [] rows most h = omega (arith, ap (λ (xs : List ℕ). length xs) h.1)
begun_short kinds begun (p ∷ ps) rows most h =
    begun_short-at kinds begun p.bytes p.ends h.0 most h.2 (begun_short kinds (over p.ends (begun ++ p.bytes)) ps h.1 most h.3)

-- The text of a row, column by column.
use Rattle.std.proofs.Common.{◌≡◌, ℕ, zero, suc, ◌+◌, ◌-◌, ◌≤◌, List, [], ◌∷◌, ◌++◌, take, drop, map, Some, refl, sym, ap, ◌∙◌, arith, append_assoc, append-nil}
use Rattle.std.specs.Prelude.{slice_get}
use Rattle.std.specs.List.{join_with_byte}
use Rattle.row_defs.specs.Rows.{Cell, Row}
use Rattle.row_defs.specs.Printed.{cell_text, row_text}
use Rattle.text_out.specs.Columns.{next_text, nexts_text}

texts_more : (cells : Row) (k : ℕ) (cell : Cell) → slice_get cells k ≡ Some cell
    → nexts_text (take (suc k) cells) ≡ nexts_text (take k cells) ++ next_text cell
texts_more [] k cell is = cc
texts_more (c ∷ cells) zero cell is = append-nil (next_text c) ∙ ap next_text (let same : c ≡ cell = cc in same)
texts_more (c ∷ cells) (suc k) cell is =
    ap (λ (xs : List ℕ). next_text c ++ xs) (texts_more cells k cell is) ∙ sym (append_assoc (next_text c) (nexts_text (take k cells)) (next_text cell))

texts_parts : (cells : Row) (k : ℕ) → nexts_text cells ≡ nexts_text (take k cells) ++ nexts_text (drop k cells)
texts_parts cells zero = refl
texts_parts [] (suc k) = refl
texts_parts (c ∷ cells) (suc k) =
    ap (λ (xs : List ℕ). next_text c ++ xs) (texts_parts cells k) ∙ sym (append_assoc (next_text c) (nexts_text (take k cells)) (nexts_text (drop k cells)))

-- one more column
pub nexts_more : (row : Row) (i : ℕ) (cell : Cell) → 1 ≤ i → slice_get row i ≡ Some cell
    → nexts_text (take (i + 1 - 1) (drop 1 row)) ≡ nexts_text (take (i - 1) (drop 1 row)) ++ next_text cell
nexts_more [] i cell some is = cc
nexts_more (c ∷ row) zero cell some is = absurd (omega arith)
nexts_more (c ∷ row) (suc k) cell some is =
    let next : suc k + 1 - 1 ≡ suc k = omega arith in
    let here : suc k - 1 ≡ k = omega arith in
    rw (next, here) (texts_more row k cell is)

-- the columns up to one, and those behind it
pub nexts_all : (row : Row) (i : ℕ) (cell : Cell) → 1 ≤ i → slice_get row i ≡ Some cell
    → (nexts_text (take (i - 1) (drop 1 row)) ++ next_text cell) ++ nexts_text (drop (i + 1 - 1) (drop 1 row)) ≡ nexts_text (drop 1 row)
nexts_all row i cell some is =
    ap (λ (xs : List ℕ). xs ++ nexts_text (drop (i + 1 - 1) (drop 1 row))) (sym (nexts_more row i cell some is))
    ∙ sym (texts_parts (drop 1 row) (i + 1 - 1))

joined : (cell : Cell) (cells : Row) → join_with_byte 9 (map cell_text (cell ∷ cells)) ≡ cell_text cell ++ nexts_text cells
joined cell [] = sym (append-nil (cell_text cell))
joined cell (next ∷ cells) = ap (λ (xs : List ℕ). cell_text cell ++ (9 ∷ xs)) (joined next cells)

-- a row is its first column, the others each behind a TAB, and LF
pub row_text-parts : (row : Row) (cell : Cell) → slice_get row 0 ≡ Some cell → row_text row ≡ cell_text cell ++ (nexts_text (drop 1 row) ++ 10 ∷ [])
row_text-parts [] cell is = cc
row_text-parts (c ∷ row) cell is =
    let same : c ≡ cell = cc in
    ap (λ (xs : List ℕ). xs ++ 10 ∷ []) (joined c row) ∙ append_assoc (cell_text c) (nexts_text row) (10 ∷ [])
    ∙ ap (λ (d : Cell). cell_text d ++ (nexts_text row ++ 10 ∷ [])) same

-- The rows that come of the first row of some, and of the others.
use Rattle.std.proofs.Common.{◌≡◌, ℕ, suc, ◌+◌, ◌-◌, ◌%◌, ◌^◌, ◌<◌, List, [], ◌∷◌, ◌++◌, length, map, slice_set, refl, ap, arith}
use Rattle.std.specs.List.{range_with_len}
use Rattle.row_defs.specs.Rows.{int, Row}
use Rattle.row_defs.specs.Texts.{words_in_text}
use Rattle.row_defs.specs.Values.{column, value_of, number_in}
use Rattle.row_defs.specs.LocalOps.{LocalOp, with_word, raised, rows_through}
use Rattle.lop_chain.specs.declared.step.Step.{Step}
use Rattle.lop_chain.specs.Ops.{rows_from}
use Rattle.lop_chain.specs.Steps.{steps_in}

pub through_none : (steps : List Step) (row : Row) → length steps ≡ 0 → rows_through (steps_in steps) row ≡ row ∷ []
through_none [] row e = refl
through_none (step ∷ steps) row e = absurd (omega arith)

pub next_word :
    (ops : List LocalOp) (row : Row) (c : ℕ) (text word after : List ℕ) → words_in_text text ≡ word ∷ words_in_text after
    → rows_from ops (map (with_word row c) (words_in_text text)) ≡ rows_through ops (with_word row c word) ++ rows_from ops (map (with_word row c) (words_in_text after))
next_word ops row c text word after e = ap (λ (words : List (List ℕ)). rows_from ops (map (with_word row c) words)) e

next_numbers : (i n : ℕ) → i < n → range_with_len i (n - i) ≡ i ∷ range_with_len (i + 1) (n - (i + 1))
next_numbers i n lt =
    let e : n - i ≡ suc (n - (i + 1)) = omega arith in
    ap (λ k. range_with_len i k) e

pub next_number :
    (ops : List LocalOp) (row : Row) (c i n : ℕ) → i < n
    → rows_from ops (map (raised row c) (range_with_len i (n - i))) ≡ rows_through ops (raised row c i) ++ rows_from ops (map (raised row c) (range_with_len (i + 1) (n - (i + 1))))
next_number ops row c i n lt = ap (λ (numbers : List ℕ). rows_from ops (map (raised row c) numbers)) (next_numbers i n lt)

pub all_numbers : (ops : List LocalOp) (row : Row) (c n : ℕ) → rows_from ops (map (raised row c) (range_with_len 0 n)) ≡ rows_from ops (map (raised row c) (range_with_len 0 (n - 0)))
all_numbers ops row c n =
    let e : n ≡ n - 0 = omega arith in
    ap (λ (k : ℕ). rows_from ops (map (raised row c) (range_with_len 0 k))) e

pub raised_by : (row : Row) (c first by i : ℕ) → first ≡ number_in (value_of (column c) row) → by ≡ i → slice_set row c (int ((first + by) % 2 ^ 64)) ≡ raised row c i
raised_by row c first by i p q = rw (p, q) refl

-- The test says whether the bytes are a row.
use Rattle.std.proofs.Common.{◌≡◌, ℕ, ◌+◌, ◌≤◌, Bool, true, false, ◌&&◌, List, [], ◌∷◌, length, take, drop, refl, sym, arith}
use Rattle.std.specs.Prelude.{nat_le, nat_eq}
use Rattle.std.proofs.lemmas.Bool.Decides.{nat_tests}
use Rattle.std.proofs.lemmas.List.{take-append-drop, length-drop, length-take-le, get_or-drop}
use Rattle.row_defs.specs.declared.kind.Kind.{Kind}
use Rattle.row_defs.specs.declared.kind.Kind.TheVariants.{Int, Text}
use Rattle.row_defs.specs.Rows.{Row, IsField, IsRow}
use Rattle.dia_item.specs.Reading.{cell_len, cell_at, row_of, has_field, has_row, is_row, u32_of}
use Rattle.dia_item.proofs.Numbers.{IsBytes}
use Rattle.dia_item.proofs.Fields.{int_field, text_field}
use Rattle.dia_item.proofs.RowLemmas.{prefix_of}

pub IsBytes-drop : (n : ℕ) (bytes : List ℕ) → IsBytes bytes → IsBytes (drop n bytes)
IsBytes-drop n bytes h i = rw get_or-drop (h (n + i))

pub and_split : (a b : Bool) → (a && b) ≡ true → (a ≡ true) × (b ≡ true)
and_split true b e = (refl, e)
and_split false b e = absurd cc

le_of_test : (m n : ℕ) → nat_le m n ≡ true → m ≤ n
le_of_test m n e = grind (arith, nat_tests)

test_of_le : (m n : ℕ) → m ≤ n → nat_le m n ≡ true
test_of_le m n e = grind (arith, nat_tests)

field_of_test : (kind : Kind) (bytes : List ℕ) → IsBytes bytes → has_field kind bytes ≡ true → IsField kind (take (cell_len kind bytes) bytes) (cell_at kind bytes)
field_of_test Int bytes h e = int_field bytes h (le_of_test 8 (length bytes) e)
field_of_test Text bytes h e =
    let p = and_split _ _ e in
    let q = and_split _ _ p.0 in
    text_field bytes (u32_of bytes) h refl (le_of_test _ _ p.1) (le_of_test _ _ q.1)

length_zero : (bytes : List ℕ) → length bytes ≡ 0 → bytes ≡ []
length_zero [] e = refl
length_zero (b ∷ bytes) e = absurd (omega arith)

zero_of_test : (n : ℕ) → nat_eq n 0 ≡ true → n ≡ 0
zero_of_test n e = grind (arith, nat_tests)

empty_of_test : (bytes : List ℕ) → nat_eq (length bytes) 0 ≡ true → bytes ≡ []
empty_of_test bytes e = length_zero bytes (zero_of_test (length bytes) e)

pub row_of_test : (kinds : List Kind) (bytes : List ℕ) → IsBytes bytes → is_row kinds bytes ≡ true → IsRow kinds bytes (row_of kinds bytes)
unfolding is_row row_of
row_of_test [] bytes h e = (empty_of_test bytes e, refl)
row_of_test (kind ∷ kinds) bytes h e =
    let p = and_split _ _ e in (
      cell_at kind bytes,
      row_of kinds (drop (cell_len kind bytes) bytes),
      take (cell_len kind bytes) bytes,
      drop (cell_len kind bytes) bytes,
      field_of_test kind bytes h p.0,
      row_of_test kinds (drop (cell_len kind bytes) bytes) (IsBytes-drop _ bytes h) p.1,
      refl,
      sym (take-append-drop (cell_len kind bytes) bytes),
    )

test_of_field : (kind : Kind) (bytes : List ℕ) → cell_len kind bytes ≤ length bytes → IsField kind (take (cell_len kind bytes) bytes) (cell_at kind bytes) → has_field kind bytes ≡ true
test_of_field Int bytes le f = test_of_le 8 (length bytes) le
test_of_field Text bytes le f =
    let n : length (take (u32_of bytes) (drop 4 bytes)) ≡ u32_of bytes = length-take-le (u32_of bytes) (drop 4 bytes) (omega (arith, length-drop 4 bytes)) in
    rw (test_of_le 4 (length bytes) (omega arith), test_of_le (u32_of bytes) 65536 (omega (arith, f.0, n)), test_of_le (4 + u32_of bytes) (length bytes) le) refl

pub test_of_row : (kinds : List Kind) (bytes : List ℕ) (row : Row) → IsRow kinds bytes row → is_row kinds bytes ≡ true
unfolding is_row row_of
test_of_row [] bytes row h = rw h.0 refl
test_of_row (kind ∷ kinds) bytes row h =
    let f = prefix_of kind kinds bytes row h in
    rw (test_of_field kind bytes f.len f.field, test_of_row kinds (drop (cell_len kind bytes) bytes) _ f.rest) refl

pub has_of_test : (kinds : List Kind) (bytes : List ℕ) → is_row kinds bytes ≡ true → has_row kinds bytes ≡ true
unfolding is_row has_row
has_of_test [] bytes e = refl
has_of_test (kind ∷ kinds) bytes e =
    let p = and_split (has_field kind bytes) (is_row kinds (drop (cell_len kind bytes) bytes)) e in
    rw (p.0, has_of_test kinds (drop (cell_len kind bytes) bytes) p.1) refl

-- the first field, and the others
pub prefix_has :
    (kind : Kind) (kinds : List Kind) (bytes : List ℕ) → has_row (kind ∷ kinds) bytes ≡ true
    → (has_field kind bytes ≡ true) × (has_row kinds (drop (cell_len kind bytes) bytes) ≡ true)
unfolding has_row
prefix_has kind kinds bytes e = and_split _ _ e

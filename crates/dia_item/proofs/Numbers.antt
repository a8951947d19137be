-- Numbers and their bytes.
use Rattle.std.proofs.Common.{◌≡◌, ℕ, ◌^◌, ◌<◌, ◌≤◌, List, ◌++◌, length, get_or, take, refl, ap, ◌∙◌, arith, inl, inr}
use Rattle.std.specs.Int.{w32, w64, to_le_bytes, from_le_bytes}
use Rattle.std.proofs.lemmas.Bool.{cases_lt}
use Rattle.std.proofs.lemmas.List.{take_at, length-take, length-take-le, get_or-take, get_or_past}
use Rattle.std.proofs.lemmas.Nat.{le_bytes_4, le_bytes_8, from_le_bytes-to_le_bytes_4, from_le_bytes-to_le_bytes_8}
use Rattle.row_defs.specs.Rows.{bytes_of_u64, bytes_of_u32}
use Rattle.dia_item.specs.Reading.{u64_of, u32_of}

abbrev pub IsBytes : List ℕ → Type 0
IsBytes bytes = (i : ℕ) → get_or bytes i 0 < 256

pub IsBytes-take : (n : ℕ) (bytes : List ℕ) → IsBytes bytes → IsBytes (take n bytes)
IsBytes-take n bytes h i =
    elim (cases_lt i n) [
      | inl lt ↦ rw (get_or-take n bytes i 0 lt) (h i)
      | inr le ↦ rw (get_or_past (take n bytes) i 0 (omega (arith, length-take n bytes))) (omega arith)
    ]

le64_fits : (bytes : List ℕ) → IsBytes bytes → from_le_bytes w64 bytes < 2 ^ 64
le64_fits bytes h = omega (arith, h 0, h 1, h 2, h 3, h 4, h 5, h 6, h 7)

pub u64_fits : (bytes : List ℕ) → IsBytes bytes → u64_of bytes < 2 ^ 64
unfolding u64_of
u64_fits bytes h = le64_fits (take 8 bytes) (IsBytes-take 8 bytes h)

pub bytes_of_u64-u64_of : (bytes : List ℕ) → IsBytes bytes → 8 ≤ length bytes → bytes_of_u64 (u64_of bytes) ≡ take 8 bytes
unfolding u64_of bytes_of_u64
bytes_of_u64-u64_of bytes h le = le_bytes_8 (take 8 bytes) (from_le_bytes w64 (take 8 bytes)) (length-take-le 8 bytes le) (IsBytes-take 8 bytes h) refl

pub bytes_of_u32-u32_of : (bytes : List ℕ) → IsBytes bytes → 4 ≤ length bytes → bytes_of_u32 (u32_of bytes) ≡ take 4 bytes
unfolding u32_of bytes_of_u32
bytes_of_u32-u32_of bytes h le = le_bytes_4 (take 4 bytes) (from_le_bytes w32 (take 4 bytes)) (length-take-le 4 bytes le) (IsBytes-take 4 bytes h) refl

pub u64_again : (n : ℕ) (rest : List ℕ) → n < 2 ^ 64 → u64_of (bytes_of_u64 n ++ rest) ≡ n
unfolding u64_of bytes_of_u64
u64_again n rest h = ap (from_le_bytes w64) (take_at (to_le_bytes w64 n) rest 8 refl) ∙ from_le_bytes-to_le_bytes_8 n h

pub u32_again : (n : ℕ) (rest : List ℕ) → n < 2 ^ 32 → u32_of (bytes_of_u32 n ++ rest) ≡ n
unfolding u32_of bytes_of_u32
u32_again n rest h = ap (from_le_bytes w32) (take_at (to_le_bytes w32 n) rest 4 refl) ∙ from_le_bytes-to_le_bytes_4 n h

pub length-bytes_of_u64 : (n : ℕ) → length (bytes_of_u64 n) ≡ 8
unfolding bytes_of_u64
length-bytes_of_u64 n = refl

pub length-bytes_of_u32 : (n : ℕ) → length (bytes_of_u32 n) ≡ 4
unfolding bytes_of_u32
length-bytes_of_u32 n = refl

-- A field that is read is the field that was written.
use Rattle.std.proofs.Common.{◌≡◌, ℕ, ◌+◌, ◌<◌, ◌≤◌, List, ◌++◌, length, take, drop, refl, sym, ap, subst, append_assoc, arith}
use Rattle.std.proofs.lemmas.List.{take_at, drop_at, take-append-drop, length-append, length-take, length-take-le, length-drop}
use Rattle.std.proofs.Math.Seq.{take-add}
use Rattle.row_defs.specs.declared.kind.Kind.{Kind}
use Rattle.row_defs.specs.declared.kind.Kind.TheVariants.{Int, Text}
use Rattle.row_defs.specs.Rows.{Cell, int, text, IsField, bytes_of_u32}
use Rattle.dia_item.specs.Reading.{cell_len, cell_at, u32_of}
use Rattle.dia_item.proofs.Numbers.{IsBytes, u64_fits, bytes_of_u64-u64_of, bytes_of_u32-u32_of, u64_again, u32_again, length-bytes_of_u64, length-bytes_of_u32}

pub int_field : (bytes : List ℕ) → IsBytes bytes → 8 ≤ length bytes → IsField Int (take 8 bytes) (cell_at Int bytes)
int_field bytes h le = (u64_fits bytes h, sym (bytes_of_u64-u64_of bytes h le))

pub text_field :
    (bytes : List ℕ) (n : ℕ) → IsBytes bytes → n ≡ u32_of bytes → 4 + n ≤ length bytes → n ≤ 65536
    → IsField Text (take (4 + n) bytes) (cell_at Text bytes)
text_field bytes n h is le short =
    let m = u32_of bytes in
    let len : length (take m (drop 4 bytes)) ≡ m = length-take-le m (drop 4 bytes) (omega (arith, length-drop 4 bytes)) in
    (omega arith, rw (len, is, take-add 4 m bytes, bytes_of_u32-u32_of bytes h (omega arith)) refl)

-- what a field spells is read from the beginning
pub record ReadsAs (kind : Kind) (first rest : List ℕ) (cell : Cell) : Type 0 where
  pub value : cell_at kind (first ++ rest) ≡ cell
  pub len : cell_len kind (first ++ rest) ≡ length first

pub text_reads :
    (t rest : List ℕ) → length t ≤ 65536 → ReadsAs Text (bytes_of_u32 (length t) ++ t) rest (text t)
text_reads t rest short =
    let prefix = bytes_of_u32 (length t) in
    let assoc : (prefix ++ t) ++ rest ≡ prefix ++ (t ++ rest) = append_assoc prefix t rest in
    let n : u32_of (prefix ++ (t ++ rest)) ≡ length t = u32_again (length t) (t ++ rest) (omega arith) in
    let body : drop 4 (prefix ++ (t ++ rest)) ≡ t ++ rest = drop_at prefix (t ++ rest) 4 (length-bytes_of_u32 (length t)) in
    record {
      value = rw (assoc, n, body, take_at t rest (length t) refl) refl;
      len = rw (assoc, n) (omega (arith, length-append prefix t, length-bytes_of_u32 (length t)));
    }

pub field_reads : (kind : Kind) (first rest : List ℕ) (cell : Cell) → IsField kind first cell → ReadsAs kind first rest cell
field_reads Int first rest (int n) f = record {
  value = rw (f.1, u64_again n rest f.0) refl;
  len = rw (f.1, length-bytes_of_u64 n) refl;
}
field_reads Int first rest (text t) f = absurd f
field_reads Text first rest (int n) f = absurd f
field_reads Text first rest (text t) f = rw f.1 (text_reads t rest f.0)

-- a field at the beginning is as long as it says
pub field_len_is : (kind : Kind) (bytes : List ℕ) (cell : Cell) (n : ℕ) → IsField kind (take n bytes) cell → cell_len kind bytes ≡ length (take n bytes)
field_len_is kind bytes cell n f =
    let P : List ℕ → Type 0 = λ all. cell_len kind all ≡ length (take n bytes) in
    subst P (take-append-drop n bytes) (field_reads kind (take n bytes) (drop n bytes) cell f).len

pub field_len_le : (kind : Kind) (bytes : List ℕ) (cell : Cell) (n : ℕ) → IsField kind (take n bytes) cell → cell_len kind bytes ≤ length bytes
field_len_le kind bytes cell n f = rw (field_len_is kind bytes cell n f) (omega (arith, length-take n bytes))

text_len_le : (bytes : List ℕ) (cell : Cell) (n : ℕ) → IsField Text (take n bytes) cell → u32_of bytes ≤ 65536
text_len_le bytes (int _) n f = absurd f
text_len_le bytes (text t) n f =
    let all : cell_len Text bytes ≡ length (take n bytes) = field_len_is Text bytes (text t) n f in
    omega (arith, all, f.0, ap length f.1, length-append (bytes_of_u32 (length t)) t, length-bytes_of_u32 (length t))

pub no_int : (bytes : List ℕ) → length bytes < 8 → (cell : Cell) (n : ℕ) → IsField Int (take n bytes) cell → ⊥
no_int bytes short cell n f = omega (arith, field_len_le Int bytes cell n f)

pub no_len : (bytes : List ℕ) → length bytes < 4 → (cell : Cell) (n : ℕ) → IsField Text (take n bytes) cell → ⊥
no_len bytes short cell n f = omega (arith, field_len_le Text bytes cell n f)

pub no_long : (bytes : List ℕ) (len : ℕ) → len ≡ u32_of bytes → 65536 < len → (cell : Cell) (n : ℕ) → IsField Text (take n bytes) cell → ⊥
no_long bytes len is long cell n f = omega (arith, text_len_le bytes cell n f)

pub no_text : (bytes : List ℕ) (len : ℕ) → len ≡ u32_of bytes → length bytes < 4 + len → (cell : Cell) (n : ℕ) → IsField Text (take n bytes) cell → ⊥
no_text bytes len is short cell n f = omega (arith, field_len_le Text bytes cell n f)

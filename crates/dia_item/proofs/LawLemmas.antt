-- Rows have one spelling, and none begins another.
use Rattle.std.proofs.Common.{◌≡◌, ℕ, ◌+◌, ◌*◌, ◌≤◌, List, [], ◌∷◌, ◌++◌, suc, length, take, drop, refl, sym, subst, ap, ◌∙◌, length-append, arith}
use Rattle.std.proofs.lemmas.List.{take_at, take-append-drop, length-take-le}
use Rattle.row_defs.specs.declared.kind.Kind.{Kind}
use Rattle.row_defs.specs.declared.kind.Kind.TheVariants.{Int, Text}
use Rattle.std.specs.Prelude.{All}
use Rattle.std.proofs.lemmas.List.Elements.{All-nil, All-cons}
use Rattle.row_defs.specs.Rows.{Cell, int, text, kind_of, kinds_of, Fits, Row, IsField, IsRow, bytes_of_u64, bytes_of_u32}
use Rattle.dia_item.specs.Reading.{row_of}
use Rattle.dia_item.specs.Sizes.{longest_field}
use Rattle.dia_item.specs.Laws.{HaveTheirKinds, HaveSpellings, AreSpelledOnce, AreNoPrefixes, AreReadAgain}
use Rattle.dia_item.proofs.Numbers.{length-bytes_of_u64, length-bytes_of_u32}
use Rattle.dia_item.proofs.RowLemmas.{row_reads, kinds_are}

-- the one spelling of a cell, and of a row
cell_bytes : Cell → List ℕ
cell_bytes (int n) = bytes_of_u64 n
cell_bytes (text t) = bytes_of_u32 (length t) ++ t

row_bytes : Row → List ℕ
row_bytes [] = []
row_bytes (cell ∷ more) = cell_bytes cell ++ row_bytes more

cell_bytes_are : (kind : Kind) (bytes : List ℕ) (cell : Cell) → IsField kind bytes cell → bytes ≡ cell_bytes cell
unfolding cell_bytes
cell_bytes_are Int bytes (int n) f = f.1
cell_bytes_are Int bytes (text t) f = absurd f
cell_bytes_are Text bytes (int n) f = absurd f
cell_bytes_are Text bytes (text t) f = f.1

row_bytes_are : (kinds : List Kind) (bytes : List ℕ) (row : Row) → IsRow kinds bytes row → bytes ≡ row_bytes row
unfolding row_bytes
row_bytes_are [] bytes row h = rw h.1 h.0
row_bytes_are (kind ∷ kinds) bytes row h =
    let first : h.2 ≡ cell_bytes h.0 = cell_bytes_are kind h.2 h.0 h.4 in
    let rest : h.3 ≡ row_bytes h.1 = row_bytes_are kinds h.3 h.1 h.5 in
    rw h.6 (h.7 ∙ ap (λ (xs : List ℕ). xs ++ h.3) first ∙ ap (λ (xs : List ℕ). cell_bytes h.0 ++ xs) rest)

pub field_fits : (kind : Kind) (bytes : List ℕ) (cell : Cell) → IsField kind bytes cell → Fits cell
field_fits Int bytes (int n) f = f.0
field_fits Int bytes (text t) f = absurd f
field_fits Text bytes (int n) f = absurd f
field_fits Text bytes (text t) f = f.0

row_fits : (kinds : List Kind) (bytes : List ℕ) (row : Row) → IsRow kinds bytes row → All Fits row
row_fits [] bytes row h = rw h.1 (All-nil Fits)
row_fits (kind ∷ kinds) bytes row h = rw h.6 (All-cons Fits h.0 h.1 (field_fits kind h.2 h.0 h.4) (row_fits kinds h.3 h.1 h.5))

pub have_kinds : HaveTheirKinds
have_kinds kinds bytes row h = (kinds_are kinds bytes row h, row_fits kinds bytes row h)

field_spelled : (cell : Cell) → Fits cell → IsField (kind_of cell) (cell_bytes cell) cell
unfolding cell_bytes
field_spelled (int n) f = (f, refl)
field_spelled (text t) f = (f, refl)

row_spelled : (row : Row) → All Fits row → IsRow (kinds_of row) (row_bytes row) row
unfolding row_bytes
row_spelled [] f = (refl, refl)
row_spelled (cell ∷ row) f =
    let first : Fits cell = f 0 cell (omega arith) in
    let more : All Fits row = λ k d lt. f (suc k) d (omega (arith, lt)) in
    (cell, row, cell_bytes cell, row_bytes row, field_spelled cell first, row_spelled row more, refl, refl)

pub have_spellings : HaveSpellings
have_spellings row f = (row_bytes row, row_spelled row f)

pub spelled_once : AreSpelledOnce
spelled_once kinds others bytes spelled row h g = (
  sym (kinds_are kinds bytes row h) ∙ kinds_are others spelled row g,
  row_bytes_are kinds bytes row h ∙ sym (row_bytes_are others spelled row g),
)

pub no_prefixes : AreNoPrefixes
no_prefixes kinds bytes rest longer more row other h g e =
    let same : row ≡ other = sym (row_reads kinds bytes rest row h) ∙ ap (row_of kinds) e ∙ row_reads kinds longer more other g in
    (row_bytes_are kinds bytes row h ∙ ap row_bytes same ∙ sym (row_bytes_are kinds longer other g), same)

-- one row at the beginning of the bytes, of one length
pub prefix_once :
    (kinds : List Kind) (bytes : List ℕ) (n m : ℕ) (row other : Row) → n ≤ length bytes → m ≤ length bytes
    → IsRow kinds (take n bytes) row → IsRow kinds (take m bytes) other → (row ≡ other) × (n ≡ m)
prefix_once kinds bytes n m row other n_in m_in h g =
    let whole : take n bytes ++ drop n bytes ≡ take m bytes ++ drop m bytes = take-append-drop n bytes ∙ sym (take-append-drop m bytes) in
    let both = no_prefixes kinds (take n bytes) (drop n bytes) (take m bytes) (drop m bytes) row other h g whole in
    (both.1, sym (length-take-le n bytes n_in) ∙ ap (λ (xs : List ℕ). length xs) both.0 ∙ length-take-le m bytes m_in)

pub read_again : AreReadAgain
read_again kinds bytes rest row h =
    let prefix : take (length bytes) (bytes ++ rest) ≡ bytes = take_at bytes rest (length bytes) refl in
    let P : List ℕ → Type 0 = λ xs. IsRow kinds xs row in
    let again : IsRow kinds (take (length bytes) (bytes ++ rest)) row = subst P (sym prefix) h in
    (again, λ n other n_in g. prefix_once kinds (bytes ++ rest) n (length bytes) other row n_in (omega (arith, length-append bytes rest)) g again)

-- how long rows are
field_short : (kind : Kind) (bytes : List ℕ) (cell : Cell) → IsField kind bytes cell → length bytes ≤ longest_field
field_short Int bytes (int n) f = rw f.1 (omega (arith, length-bytes_of_u64 n))
field_short Int bytes (text t) f = absurd f
field_short Text bytes (int n) f = absurd f
field_short Text bytes (text t) f = rw f.1 (omega (arith, f.0, length-append (bytes_of_u32 (length t)) t, length-bytes_of_u32 (length t)))

pub row_short : (kinds : List Kind) (bytes : List ℕ) (row : Row) → IsRow kinds bytes row → length bytes ≤ longest_field * length kinds
row_short [] bytes row h = rw h.0 (omega arith)
row_short (kind ∷ kinds) bytes row h =
    let all : length bytes ≡ length h.2 + length h.3 = ap (λ (xs : List ℕ). length xs) h.7 ∙ length-append h.2 h.3 in
    omega (arith, all, field_short kind h.2 h.0 h.4, row_short kinds h.3 h.1 h.5)

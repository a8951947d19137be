-- Rows: their fields, their bytes, their order.
use Rattle.std.specs.Prelude.{◌≡◌, ℕ, ◌^◌, ◌<◌, ◌≤◌, List, [], ◌∷◌, ◌++◌, length, take, map}
use Rattle.std.specs.Int.{w32, w64, to_le_bytes}
use Rattle.std.specs.declared.cmp.Ordering.{Ordering}
use Rattle.std.specs.declared.cmp.Ordering.TheVariants.{Less, Greater}
use Rattle.std.specs.Ordering.{nat_cmp}
use Rattle.std.specs.Cmp.Lexicographic.{slice_cmp}
use Rattle.row_defs.specs.Limits.{longest_text}
use Rattle.row_defs.specs.declared.kind.Kind.{Kind}
use Rattle.row_defs.specs.declared.kind.Kind.TheVariants.{Int, Text}

-- what a field holds
pub data Cell : Type 0 where
  int : ℕ → Cell
  text : List ℕ → Cell

abbrev pub Row : Type 0
Row = List Cell

abbrev pub kind_of : Cell → Kind
kind_of (int n) = Int
kind_of (text t) = Text

abbrev pub kinds_of : Row → List Kind
kinds_of row = map kind_of row

abbrev pub Fits : Cell → Type 0
Fits (int n) = n < 2 ^ 64
Fits (text t) = length t ≤ longest_text

-- how a number is spelled in 8 and in 4 bytes, the lowest byte first
unfoldable pub bytes_of_u64 : ℕ → List ℕ
bytes_of_u64 n = to_le_bytes w64 n

unfoldable pub bytes_of_u32 : ℕ → List ℕ
bytes_of_u32 n = to_le_bytes w32 n

-- a number is its 8 bytes; a text is the 4 bytes of its length, and then its bytes
abbrev pub IsField : Kind → List ℕ → Cell → Type 0
IsField Int bytes (int n) = (n < 2 ^ 64) × (bytes ≡ bytes_of_u64 n)
IsField Text bytes (text t) = (length t ≤ longest_text) × (bytes ≡ bytes_of_u32 (length t) ++ t)
IsField _ _ _ = ⊥

-- a row is its fields, one after the other, with nothing between or around them
abbrev pub IsRow : List Kind → List ℕ → Row → Type 0
IsRow [] bytes row = (bytes ≡ []) × (row ≡ [])
IsRow (kind ∷ kinds) bytes row =
    (cell : Cell) × (more : Row) × (first : List ℕ) × (rest : List ℕ)
    × IsField kind first cell × IsRow kinds rest more × (row ≡ cell ∷ more) × (bytes ≡ first ++ rest)

-- numbers by size; texts by their bytes, where a proper prefix comes first
abbrev pub cell_cmp : Cell → Cell → Ordering
cell_cmp (int m) (int n) = nat_cmp m n
cell_cmp (text s) (text t) = slice_cmp nat_cmp s t
cell_cmp (int _) (text _) = Less
cell_cmp (text _) (int _) = Greater

-- the first column that differs decides
abbrev pub row_cmp : Row → Row → Ordering
row_cmp = slice_cmp cell_cmp

-- the first k columns
abbrev pub key_of : ℕ → Row → Row
key_of k row = take k row

-- the row of one number
abbrev pub number_row : ℕ → Row
number_row n = int n ∷ []

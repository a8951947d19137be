-- What the bytes hold, read from their beginning: words of the representation alone, which `IsRow` stands above.
use Rattle.std.specs.Prelude.{Bool, true, ◌&&◌, nat_le, nat_eq, ℕ, ◌+◌, List, [], ◌∷◌, length, take, drop}
use Rattle.std.specs.Int.{w32, w64, from_le_bytes}
use Rattle.row_defs.specs.declared.kind.Kind.{Kind}
use Rattle.row_defs.specs.declared.kind.Kind.TheVariants.{Int, Text}
use Rattle.row_defs.specs.Rows.{Cell, int, text, Row}
use Rattle.row_defs.specs.Limits.{longest_text}

-- the number that the first 8 or 4 bytes spell
unfoldable pub u64_of : List ℕ → ℕ
u64_of bytes = from_le_bytes w64 (take 8 bytes)

unfoldable pub u32_of : List ℕ → ℕ
u32_of bytes = from_le_bytes w32 (take 4 bytes)

-- the field at the beginning of the bytes, and how many bytes it has
abbrev pub cell_len : Kind → List ℕ → ℕ
cell_len Int bytes = 8
cell_len Text bytes = 4 + u32_of bytes

abbrev pub cell_at : Kind → List ℕ → Cell
cell_at Int bytes = int (u64_of bytes)
cell_at Text bytes = text (take (u32_of bytes) (drop 4 bytes))

-- the row at the beginning of the bytes
unfoldable pub row_of : List Kind → List ℕ → Row
row_of [] bytes = []
row_of (kind ∷ kinds) bytes = cell_at kind bytes ∷ row_of kinds (drop (cell_len kind bytes) bytes)

-- the bytes begin with a field of this kind
abbrev pub has_field : Kind → List ℕ → Bool
has_field Int bytes = nat_le 8 (length bytes)
has_field Text bytes = (nat_le 4 (length bytes) && nat_le (u32_of bytes) longest_text) && nat_le (4 + u32_of bytes) (length bytes)

-- the bytes begin with fields of these kinds
unfoldable pub has_row : List Kind → List ℕ → Bool
has_row [] bytes = true
has_row (kind ∷ kinds) bytes = has_field kind bytes && has_row kinds (drop (cell_len kind bytes) bytes)

-- the bytes are one row of these kinds
unfoldable pub is_row : List Kind → List ℕ → Bool
is_row [] bytes = nat_eq (length bytes) 0
is_row (kind ∷ kinds) bytes = has_field kind bytes && is_row kinds (drop (cell_len kind bytes) bytes)

-- A place among the rows of packets.
use Rattle.std.specs.Prelude.{◌≡◌, ℕ, ◌+◌, ◌<◌, ◌≤◌, List, [], ◌∷◌, ◌++◌, length, take, drop, Option, None, Some}
use Rattle.row_defs.specs.Rows.{Row, IsRow}
use Rattle.dia_item.specs.KindList.{kind_list}
use Rattle.dia_item.specs.Sizes.{longest_row}
use Rattle.block_pool.specs.Handles.{BlockValue, PinnedValue}
use Rattle.dia_file.specs.Encoding.{spelled}
use Rattle.mix_stream.specs.Reading.{Reading, StartsNoRow}
use Rattle.mix_stream.specs.declared.stream.Stream.{Stream}
use Rattle.mix_stream.specs.declared.stream.RowPlace.{RowPlace}
use Rattle.mix_stream.specs.declared.stream.RowPlace.TheVariants.{InBlock, InBuffer}

abbrev pub shown_bytes : Option PinnedValue → List ℕ
shown_bytes None = []
shown_bytes (Some p) = p.shown

-- the block that is pinned, or none
abbrev pub pinned_of : Option PinnedValue → List BlockValue
pinned_of None = []
pinned_of (Some p) = record { pool = p.pool; bytes = p.bytes } ∷ []

-- the bytes that are left of the packet that is read: those of it that were copied, and the rest of its block
abbrev pub left_of : Stream → List ℕ
left_of s = take s.pending s.buffer.items ++ drop s.at (shown_bytes s.shown)

abbrev pub reading_of : Stream → Reading
reading_of s = record { kinds = kind_list s.kinds; from = s.from; left = left_of s; pinned = pinned_of s.shown; packets = s.packets.items }

-- The place is in the block. Bytes that were copied are the beginning of a row that goes on.
pub record IsInside (s : Stream) : Type 0 where
  pub at : s.at ≤ length (shown_bytes s.shown)
  pub pending : s.pending ≤ length s.buffer.items
  pub short : s.pending ≤ longest_row
  pub begun : 0 < s.pending → StartsNoRow (kind_list s.kinds) (take s.pending s.buffer.items)

-- the bytes at a place
abbrev pub IsAt : Stream → RowPlace → List ℕ → Type 0
IsAt s (InBlock start len) bytes = (start + len ≤ length (shown_bytes s.shown)) × (bytes ≡ take len (drop start (shown_bytes s.shown)))
IsAt s (InBuffer len) bytes = (len ≤ length s.buffer.items) × (bytes ≡ take len s.buffer.items)

-- nothing is read, and no other packet is turned to
pub record IsSameBut (s t : Stream) : Type 0 where
  pub kinds : t.kinds ≡ s.kinds
  pub from : t.from ≡ s.from
  pub shown : t.shown ≡ s.shown
  pub packets : t.packets ≡ s.packets
  pub left : left_of t ≡ left_of s
  pub inside : IsInside t

-- one row is read, which lies at the place
pub record Gives (s : Stream) (place : RowPlace) (t : Stream) : Type 0 where
  pub kinds : t.kinds ≡ s.kinds
  pub from : t.from ≡ s.from
  pub shown : t.shown ≡ s.shown
  pub packets : t.packets ≡ s.packets
  pub inside : IsInside t
  pub row : Row
  pub is_row : IsRow (kind_list s.kinds) (spelled row) row
  pub some : 0 < length (spelled row)
  pub lies : IsAt t place (spelled row)
  pub left : left_of s ≡ spelled row ++ left_of t

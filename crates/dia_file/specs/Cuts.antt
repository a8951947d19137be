-- Where a list of blocks may be cut.
use Rattle.std.specs.Prelude.{◌≡◌, ℕ, ◌+◌, ◌<◌, ◌≤◌, List, [], ◌∷◌, length, take, ⊤, All, ◌/◌, ◌++◌, sum_by}
use Rattle.std.specs.List.{flat_map}
use Rattle.std.specs.VecDeque.{deque_len, deque_capacity}
use Rattle.std.specs.declared.collections.VecDeque.{VecDeque}
use Rattle.std.specs.declared.alloc.Global.{Global}
use Rattle.row_defs.specs.Rows.{Row}
use Rattle.dia_item.specs.Sizes.{longest_row}
use Rattle.dia_file.specs.Encoding.{encoded}
use Rattle.block_pool.specs.Handles.{BlockValue}
use Rattle.dia_file.specs.declared.sealed.Sealed.{Sealed}
use Rattle.dia_file.specs.Files.{FileValue}

-- how many rows end in blocks, and how many bytes they have
abbrev pub ends_of : List Sealed → ℕ
ends_of [] = 0
ends_of (s ∷ items) = s.ends + ends_of items

abbrev pub lens_of : List Sealed → ℕ
lens_of [] = 0
lens_of (s ∷ items) = s.len + lens_of items

-- no row is open at the end: there is no block, or a row ends in the last one
abbrev pub IsWhole : List Sealed → Type 0
IsWhole [] = ⊤
IsWhole (s ∷ []) = 0 < s.ends
IsWhole (s ∷ t ∷ items) = IsWhole (t ∷ items)

-- behind the first of these blocks no row is open, and so many rows end in them, no more than i
pub record Sought (items : List Sealed) (i start before : ℕ) : Type 0 where
  pub within : start ≤ length items
  pub whole : IsWhole (take start items)
  pub ends : ends_of (take start items) ≡ before
  pub most : before ≤ i

-- lists without blocks, each with room for so many
abbrev pub AreRooms : ℕ → List (VecDeque Sealed Global) → Type 0
AreRooms blocks rooms = All (λ (room : VecDeque Sealed Global). (room.items ≡ []) × (deque_len room ≡ 0) × (blocks ≤ deque_capacity room)) rooms

-- the rows and the blocks of files, one after the other
abbrev pub rows_of_files : List FileValue → List Row
rows_of_files files = flat_map (λ (f : FileValue). f.rows) files

abbrev pub blocks_of_files : List FileValue → List BlockValue
blocks_of_files files = flat_map (λ (f : FileValue). f.blocks) files

-- Blocks up to the first ones behind which no row is open and that have so many bytes: before the last row began there were
-- no more, and no row ends in the blocks that follow but the last one.
pub record IsDue (want : ℕ) (items : List Sealed) : Type 0 where
  pub before : List Sealed
  pub long : List Sealed
  pub last : List Sealed
  pub items_are : items ≡ before ++ (long ++ last)
  pub whole : IsWhole before
  pub few : lens_of before ≤ want
  pub none : ends_of long ≡ 0
  pub one : length last ≤ 1

abbrev pub last_len : List BlockValue → ℕ
last_len [] = 0
last_len (b ∷ []) = length b.bytes
last_len (b ∷ c ∷ blocks) = last_len (c ∷ blocks)

-- the encoded lengths of all rows of files
abbrev pub bytes_of_files : List FileValue → ℕ
bytes_of_files = sum_by (λ file. length (encoded file.rows))

-- no fewer bytes than this share, and no more than it, the longest row and the file's last block
abbrev pub HasShare : ℕ → FileValue → Type 0
HasShare share file = (share ≤ length (encoded file.rows)) × (length (encoded file.rows) ≤ share + longest_row + last_len file.blocks)

-- Each file has its share of what is left for it and those behind it.
abbrev pub AreEven : List FileValue → Type 0
AreEven [] = ⊤
AreEven (file ∷ files) = HasShare (bytes_of_files (file ∷ files) / length (file ∷ files)) file × AreEven files

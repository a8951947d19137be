-- What a file holds.
use Rattle.std.specs.Prelude.{◌≡◌, ℕ, ◌<◌, ◌≤◌, List, [], length}
use Rattle.std.specs.List.{flat_map, AllByRecursion}
use Rattle.row_defs.specs.declared.kind.Kind.{Kind}
use Rattle.row_defs.specs.Limits.{most_columns}
use Rattle.row_defs.specs.Rows.{Row}
use Rattle.dia_item.specs.KindList.{kind_list}
use Rattle.block_pool.specs.Handles.{PoolName, BlockValue, AreOfPool}
use Rattle.dia_file.specs.Encoding.{encoded, AreOf}
use Rattle.dia_file.specs.Pieces.{rows_in, AreIn}
use Rattle.dia_file.specs.declared.sealed.Sealed.{Sealed}
use Rattle.dia_file.specs.Frames.{pieces, blocks_of, AllSealedIn}
use Rattle.dia_file.specs.declared.file.File.TheInside.{Inside}

-- the kinds of a file's rows, the rows, and the blocks
pub record FileValue : Type 0 where
  pub kinds : List Kind
  pub rows : List Row
  pub blocks : List BlockValue

-- all blocks are of this pool
abbrev pub IsFileOf : PoolName → FileValue → Type 0
IsFileOf pool f = AreOfPool pool f.blocks

abbrev pub joined_blocks : List BlockValue → List ℕ
joined_blocks blocks = flat_map (λ (b : BlockValue). b.bytes) blocks

abbrev pub AreFilled : List BlockValue → Type 0
AreFilled blocks = AllByRecursion (λ (b : BlockValue). 0 < length b.bytes) blocks

unfoldable pub rows_stored : List Kind → List Sealed → List Row
rows_stored kinds items = rows_in kinds [] (pieces items)

abbrev pub file_value : Inside → FileValue
file_value f = record { kinds = kind_list f.kinds; rows = rows_stored (kind_list f.kinds) f.sealed.items; blocks = blocks_of f.sealed.items }

-- blocks of one pool that hold just these rows, so many and of so many bytes
pub record IsStored (kinds : List Kind) (items : List Sealed) (count size : ℕ) : Type 0 where
  pub pool : PoolName
  pub rows_are : List Row
  pub sealed : AllSealedIn pool items
  pub parts : AreIn kinds [] (pieces items) rows_are []
  pub are : AreOf kinds rows_are
  pub rows : count ≡ length rows_are
  pub bytes : size ≡ length (encoded rows_are)
  pub some_kinds : 0 < length kinds
  pub most_kinds : length kinds ≤ most_columns

abbrev pub IsFile : Inside → Type 0
IsFile f = IsStored (kind_list f.kinds) f.sealed.items f.rows f.bytes

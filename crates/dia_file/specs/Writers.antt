-- What a writer holds.
use Rattle.std.specs.Prelude.{◌≡◌, ℕ, ◌<◌, ◌≤◌, Bool, true, false, List, [], ◌∷◌, ◌++◌, length, Option, None, Some, ⊤}
use Rattle.row_defs.specs.declared.kind.Kind.{Kind}
use Rattle.row_defs.specs.Limits.{most_columns, most_rows}
use Rattle.row_defs.specs.Rows.{Row}
use Rattle.dia_item.specs.KindList.{kind_list}
use Rattle.block_pool.specs.Handles.{PoolName, BlockValue, FrameValue, HandValue, HasHit, AreOfPool}
use Rattle.dia_file.specs.Encoding.{encoded, AreOf}
use Rattle.dia_file.specs.Pieces.{Piece, rows_in, IsPiece, AreIn}
use Rattle.dia_file.specs.declared.sealed.Sealed.{Sealed}
use Rattle.dia_file.specs.Frames.{pieces, blocks_of, AllSealedIn, IsFilled, IsFrameIn, frame_bytes, frames}
use Rattle.dia_file.specs.declared.writer.FileWriter.TheInside.{Inside}
use Rattle.dia_file.specs.declared.refusals.PushErr.{PushErr}
use Rattle.dia_file.specs.declared.refusals.PushErr.TheVariants.{Disk, NoMemory, TooManyRows}

-- the kinds and the limit of a writer, its rows, its blocks, the frame that is written, and whether it is broken
pub record WriterValue : Type 0 where
  pub kinds : List Kind
  pub limit : ℕ
  pub rows : List Row
  pub blocks : List BlockValue
  pub frame : Option FrameValue
  pub is_broken : Bool

-- the writer's blocks and its frame are of this pool
pub record IsWriterOf (pool : PoolName) (w : WriterValue) : Type 0 where
  pub blocks : AreOfPool pool w.blocks
  pub frame : IsFrameIn pool w.frame

-- how many frames it writes: one or none
abbrev pub frames_of : WriterValue → ℕ
frames_of w = frames w.frame

abbrev pub last_piece : Inside → Piece
last_piece w = record { bytes = frame_bytes w.frame; ends = w.ends }

unfoldable pub rows_written : Inside → List Row
rows_written w = rows_in (kind_list w.kinds) [] (pieces w.sealed.items ++ last_piece w ∷ [])

abbrev pub writer_value : Inside → WriterValue
writer_value w = record { kinds = kind_list w.kinds; limit = w.limit; rows = rows_written w; blocks = blocks_of w.sealed.items; frame = w.frame; is_broken = w.broken }

-- no row ends in a frame that isn't there
abbrev pub IsIdle : Option FrameValue → ℕ → Type 0
IsIdle None ends = ends ≡ 0
IsIdle (Some f) ends = ⊤

-- the rows that ended in sealed blocks, those that ended in the frame, and what of a row stands in sealed blocks
pub record Stands (kinds : List Kind) (pool : PoolName) (items : List Sealed) (f : Option FrameValue) (ends : ℕ) (rows : List Row) : Type 0 where
  pub done : List Row
  pub last : List Row
  pub begun : List ℕ
  pub sealed : AllSealedIn pool items
  pub frame : IsFrameIn pool f
  pub idle : IsIdle f ends
  pub parts : AreIn kinds [] (pieces items) done begun
  pub piece : IsPiece kinds begun (record { bytes = frame_bytes f; ends = ends }) last
  pub all : rows ≡ done ++ last

pub record IsWriter (w : Inside) : Type 0 where
  pub pool : PoolName
  pub rows_are : List Row
  pub stands : Stands (kind_list w.kinds) pool w.sealed.items w.frame w.ends rows_are
  pub whole : w.broken ≡ false → w.ends ≡ 0 → stands.begun ++ frame_bytes w.frame ≡ []
  pub filled : w.broken ≡ false → IsFilled w.frame
  pub are : AreOf (kind_list w.kinds) rows_are
  pub rows : w.rows ≡ length rows_are
  pub bytes : w.bytes ≡ length (encoded rows_are)
  pub some_kinds : 0 < length (kind_list w.kinds)
  pub most_kinds : length (kind_list w.kinds) ≤ most_columns
  pub limit : w.rows ≤ w.limit
  pub most : w.limit ≤ most_rows

-- Why no row was pushed. The limit refuses before anything is done.
abbrev pub RefusesPush : PushErr → WriterValue → HandValue → WriterValue → HandValue → Type 0
RefusesPush (Disk count) w before v after = HasHit before.notes after.notes count × (v.is_broken ≡ true)
RefusesPush NoMemory w before v after = v.is_broken ≡ true
RefusesPush (TooManyRows limit) w before v after = (limit ≡ w.limit) × (length w.rows ≡ w.limit) × (v ≡ w) × (after ≡ before)

-- What sinks come to that are ended.
use Rattle.std.specs.Prelude.{◌≡◌, ◌+◌, ◌≤◌, ℕ, false, List, [], length, ⊤, Option, None, Some, vec_len, vec_capacity}
use Rattle.row_defs.specs.declared.kind.Kind.{Kind}
use Rattle.row_defs.specs.Limits.{most_rows}
use Rattle.block_pool.specs.Handles.{HandValue, Follows}
use Rattle.dia_file.specs.Files.{FileValue, IsFileOf}
use Rattle.dia_file.specs.Writers.{frames_of}
use Rattle.file_sink.specs.Sinks.{SinkValue}
use Rattle.sink_files.specs.declared.ending.End.{End}
use Rattle.sink_files.specs.declared.ending.End.TheVariants.{Finish, Cancel}
use Rattle.sink_files.specs.declared.ending.Ended.{Ended}

-- a sink for this hand, of rows of these kinds, which took no row yet
pub record IsFreshSink (kinds : List Kind) (s : SinkValue) (a : HandValue) : Type 0 where
  pub own : s.pool ≡ a.pool
  pub kinds_are : s.writer.kinds ≡ kinds
  pub limit : s.writer.limit ≡ most_rows
  pub none : s.writer.rows ≡ []
  pub frame : s.writer.frame ≡ None
  pub is_open : s.is_shut ≡ false

-- the hand has a permit for the block that is read and one for the frame that is written
abbrev pub HasTwoPermits : HandValue → Type 0
HasTwoPermits a = 2 ≤ a.permits

abbrev pub rows_taken : SinkValue → ℕ
rows_taken s = length s.writer.rows

abbrev pub IsOpen : SinkValue → Type 0
IsOpen s = s.is_shut ≡ false

-- the sink is of the hand's pool
abbrev pub IsSinkOf : SinkValue → HandValue → Type 0
IsSinkOf s a = a.pool ≡ s.pool

-- its file may be had with this hand
abbrev pub CanFinish : SinkValue → HandValue → Type 0
CanFinish s a = IsSinkOf s a × IsOpen s

-- the sink may be ended so, with this hand
abbrev pub CanEnd : End → SinkValue → HandValue → Type 0
CanEnd Finish s a = CanFinish s a
CanEnd Cancel s a = IsSinkOf s a

-- the hand after the end of its sink: the frame that was written is a permit again
abbrev pub IsBack : SinkValue → HandValue → HandValue → Type 0
IsBack s a b = Follows a b × (b.permits ≡ a.permits + frames_of s.writer)

-- the file of a sink, where there is one, has its rows and is of the hand's pool
pub record IsFileFrom (s : SinkValue) (b : HandValue) (f : FileValue) : Type 0 where
  pub rows : f.rows ≡ s.writer.rows
  pub kinds : f.kinds ≡ s.writer.kinds
  pub own : IsFileOf b.pool f

abbrev pub IsPartFrom : SinkValue → HandValue → Option FileValue → Type 0
IsPartFrom s b None = ⊤
IsPartFrom s b (Some f) = IsFileFrom s b f

abbrev pub part_rows : Option FileValue → ℕ
part_rows None = 0
part_rows (Some f) = length f.rows

-- there is room for what comes back from so many sinks
pub record HasRoomFor {D : Type 0} (count : ℕ) (room : Ended D) : Type 0 where
  pub no_hands : vec_len room.hands ≡ 0
  pub no_parts : vec_len room.parts ≡ 0
  pub for_hands : count ≤ vec_capacity room.hands
  pub for_parts : count ≤ vec_capacity room.parts

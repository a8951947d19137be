-- What a reader holds that frees what it has read.
use Rattle.std.specs.Prelude.{◌≡◌, ℕ, ◌+◌, ◌≤◌, true, List, ◌++◌, length, drop}
use Rattle.row_defs.specs.declared.kind.Kind.{Kind}
use Rattle.row_defs.specs.Rows.{Row}
use Rattle.dia_item.specs.KindList.{kind_list}
use Rattle.block_pool.specs.Handles.{BlockValue, HandValue, AreOfPool}
use Rattle.dia_file.specs.Encoding.{encoded}
use Rattle.dia_file.specs.Frames.{blocks_of}
use Rattle.dia_file.specs.Files.{joined_blocks}
use Rattle.dia_file.specs.Places.{at_spot, pins, file_items, rows_left}
use Rattle.dia_file.specs.Readers.{IsReading}
use Rattle.dia_file.specs.Tallies.{Frees}
use Rattle.dia_file.specs.declared.place.Place.{Place}
use Rattle.dia_file.specs.declared.place.After.TheVariants.{Free}
use Rattle.dia_file.specs.declared.consume.ConsumeReader.TheInside.{Inside}

-- the kinds of the rows, those that are left, the blocks that aren't freed, and how many of these are pinned
pub record ConsumerValue : Type 0 where
  pub kinds : List Kind
  pub left : List Row
  pub blocks : List BlockValue
  pub pinned : ℕ

-- where the reader stands
abbrev pub spot : Inside → Place
spot r = at_spot r.place r.at r.here r.kept

abbrev pub consumer_value : Inside → ConsumerValue
consumer_value r = record {
  kinds = kind_list r.kinds;
  left = rows_left (kind_list r.kinds) (spot r);
  blocks = blocks_of (file_items (spot r));
  pinned = pins r.place.shown;
}

pub record IsConsumer (r : Inside) : Type 0 where
  pub reading : IsReading (kind_list r.kinds) (spot r)
  pub frees : r.place.after ≡ Free

-- Blocks went from the start of the list and were freed, no other was, and those left are of the hand's pool. A permit goes with each block that is
-- pinned: one or none. Where the disk tells, the blocks behind the pinned one have no bytes but those of rows that are left.
pub record Drains (a b : HandValue) (before after : ConsumerValue) : Type 0 where
  pub kinds : after.kinds ≡ before.kinds
  pub blocks : (gone : List BlockValue) × (before.blocks ≡ gone ++ after.blocks)
  pub own : AreOfPool b.pool after.blocks
  pub permits : b.permits + after.pinned ≡ a.permits + before.pinned
  pub one : after.pinned ≤ 1
  pub gone : Frees (length before.blocks) (length after.blocks) a.notes b.notes
  pub freed : a.pool.opening.tells ≡ true → length (joined_blocks (drop after.pinned after.blocks)) ≤ length (encoded after.left)

-- What a reader holds.
use Rattle.std.specs.Prelude.{◌≡◌, ℕ, suc, ◌+◌, ◌<◌, ◌≤◌, true, List, ◌∷◌, length}
use Rattle.row_defs.specs.declared.kind.Kind.{Kind}
use Rattle.row_defs.specs.Limits.{most_columns}
use Rattle.row_defs.specs.Rows.{Row, kinds_of}
use Rattle.dia_item.specs.KindList.{kind_list}
use Rattle.block_pool.specs.Handles.{PoolName, HandValue}
use Rattle.dia_file.specs.Frames.{blocks_of}
use Rattle.dia_file.specs.Files.{FileValue, rows_stored, IsStored}
use Rattle.dia_file.specs.Places.{at_spot, pins, file_items, rows_left, IsPlaced, Tells}
use Rattle.dia_file.specs.declared.place.Place.{Place}
use Rattle.dia_file.specs.declared.place.After.TheVariants.{Keep}
use Rattle.dia_file.specs.declared.keep.KeepReader.TheInside.{Inside}

-- the file, the rows that are left, and how many blocks are pinned
pub record KeeperValue : Type 0 where
  pub file : FileValue
  pub left : List Row
  pub pinned : ℕ

-- a place among rows of these kinds
pub record IsReading (kinds : List Kind) (p : Place) : Type 0 where
  pub pool : PoolName
  pub placed : IsPlaced pool p
  pub told : Tells kinds pool p
  pub alone : 0 < p.here → p.kept ≡ 0
  pub most : length kinds ≤ most_columns

-- where the reader stands
abbrev pub spot : Inside → Place
spot r = at_spot r.place r.at r.here r.kept

abbrev pub keeper_value : Inside → KeeperValue
keeper_value r = record {
  file = record { kinds = kind_list r.kinds; rows = rows_stored (kind_list r.kinds) (file_items (spot r)); blocks = blocks_of (file_items (spot r)) };
  left = rows_left (kind_list r.kinds) (spot r);
  pinned = pins r.place.shown;
}

pub record IsKeeper (r : Inside) : Type 0 where
  pub reading : IsReading (kind_list r.kinds) (spot r)
  pub stored : IsStored (kind_list r.kinds) (file_items (spot r)) r.rows r.bytes
  pub keeps : r.place.after ≡ Keep

-- one row fewer is left; it has the kinds, and where the disk tells it is the next one
pub record Gives (pool : PoolName) (kinds : List Kind) (before : List Row) (row : Row) (after : List Row) : Type 0 where
  pub count : length before ≡ suc (length after)
  pub are : kinds_of row ≡ kinds
  pub told : pool.opening.tells ≡ true → before ≡ row ∷ after

-- as many rows are left, and where the disk tells the same ones
pub record StaysAt (pool : PoolName) (before after : List Row) : Type 0 where
  pub count : length after ≡ length before
  pub told : pool.opening.tells ≡ true → after ≡ before

-- the file stays, and a permit goes with each block that is pinned: one or none
pub record Keeps (a b : HandValue) (before after : KeeperValue) : Type 0 where
  pub file : after.file ≡ before.file
  pub permits : b.permits + after.pinned ≡ a.permits + before.pinned
  pub one : after.pinned ≤ 1

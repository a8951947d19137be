-- What is left of files whose blocks are freed without being read.
use Rattle.std.specs.Prelude.{◌≡◌, ℕ, Bool, true, false, List, [], length, Option, None, Some}
use Rattle.row_defs.specs.Operands.{Root, stored_root, count_root}
use Rattle.block_pool.specs.Handles.{HandValue, BlockValue, Follows}
use Rattle.dia_file.specs.Files.{FileValue}
use Rattle.dia_file.specs.Tallies.{Frees}
use Rattle.scatter.specs.Lines.{LineValue, Lines}
use Rattle.scatter.specs.Stocks.{IsPartOf}
use Rattle.scatter.specs.Phases.{AllThree}

-- the blocks of a part that is there
abbrev pub part_blocks : Option FileValue → List BlockValue
part_blocks None = []
part_blocks (Some f) = f.blocks

-- a part that is there is of the hand's pool
abbrev pub IsPartIn : HandValue → Option FileValue → Type 0
IsPartIn hand part = IsPartOf hand.pool part

-- a hand before and after: with it the blocks of the part were freed, and no other
pub record IsCleared (part : Option FileValue) (before after : HandValue) : Type 0 where
  pub follows : Follows before after
  pub permits : after.permits ≡ before.permits
  pub gone : Frees (length (part_blocks part)) 0 before.notes after.notes

-- the hands before and after a root was used without being read: at a stored line's last use its blocks were freed
abbrev pub IsUnread : Lines → Root → Bool → List HandValue → List HandValue → Type 0
IsUnread lines (stored_root n) true hands now = (line : LineValue) → lines n ≡ Some line → AllThree IsCleared line.parts hands now
IsUnread lines (stored_root n) false hands now = now ≡ hands
IsUnread lines (count_root n rows) last hands now = now ≡ hands

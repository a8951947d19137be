-- What a feed holds.
use Rattle.std.specs.Prelude.{ℕ, ◌-◌, Bool, true, false, List, [], ◌∷◌, map, Option, None, Some}
use Rattle.std.specs.List.{range_with_len}
use Rattle.row_defs.specs.declared.kind.Kind.{Kind}
use Rattle.row_defs.specs.declared.kind.Kind.TheVariants.{Int}
use Rattle.row_defs.specs.Rows.{Row, number_row}
use Rattle.row_defs.specs.LocalOps.{LocalOp}
use Rattle.block_pool.specs.Handles.{BlockValue}
use Rattle.lop_chain.specs.Chains.{chain_ops}
use Rattle.dia_file.specs.Files.{FileValue}
use Rattle.dia_file.specs.Readers.{KeeperValue}
use Rattle.dia_file.specs.Consumers.{ConsumerValue}
use Rattle.scatter.specs.declared.steps.Numbers.{Numbers}
use Rattle.scatter.specs.declared.feed.Source.{Source}
use Rattle.scatter.specs.declared.feed.Source.TheVariants.{Keep, Consume, Count}
use Rattle.scatter.specs.declared.feed.Feed.TheInside.{Inside}

-- the kinds of the source's rows, the lines that each row goes through, the rows that are left, and the blocks
pub record FeedValue : Type 0 where
  pub kinds : List Kind
  pub ops : List LocalOp
  pub left : List Row
  pub blocks : List BlockValue
  pub keeps : Option FileValue  -- the file that it gives back
  pub pins : ℕ  -- how many blocks it pins at a time: one, or none where it counts
  pub pinned : ℕ  -- how many are pinned

-- the numbers from one up to another, as rows
abbrev pub number_rows : ℕ → ℕ → List Row
number_rows start end = map number_row (range_with_len start (end - start))

abbrev pub keeping : List LocalOp → KeeperValue → FeedValue
keeping ops r = record { kinds = r.file.kinds; ops = ops; left = r.left; blocks = r.file.blocks; keeps = Some r.file; pins = 1; pinned = r.pinned }

abbrev pub consuming : List LocalOp → ConsumerValue → FeedValue
consuming ops r = record { kinds = r.kinds; ops = ops; left = r.left; blocks = r.blocks; keeps = None; pins = 1; pinned = r.pinned }

-- a feed of a file that has just begun: freed as it is read where this is its last use, else given back
abbrev pub part_feed : Bool → List LocalOp → FileValue → FeedValue
part_feed true ops file = record { kinds = file.kinds; ops = ops; left = file.rows; blocks = file.blocks; keeps = None; pins = 1; pinned = 0 }
part_feed false ops file = record { kinds = file.kinds; ops = ops; left = file.rows; blocks = file.blocks; keeps = Some file; pins = 1; pinned = 0 }

-- of the rows of numbers
abbrev pub number_feed : List LocalOp → List Row → FeedValue
number_feed ops rows = record { kinds = Int ∷ []; ops = ops; left = rows; blocks = []; keeps = None; pins = 0; pinned = 0 }

abbrev pub counting : List LocalOp → Numbers → FeedValue
counting ops n = number_feed ops (number_rows n.next n.end)

abbrev pub feed_of : List LocalOp → Source → FeedValue
feed_of ops (Keep r) = keeping ops r
feed_of ops (Consume r) = consuming ops r
feed_of ops (Count n) = counting ops n

abbrev pub feed_value : Inside → FeedValue
feed_value f = feed_of (chain_ops f.chain) f.source

-- The rows that arrive at a phase, where they are known, and what a fault of the disk says.
use Rattle.std.specs.Prelude.{◌≡◌, ◌<◌, ℕ, true, List, All, Some, ⊤, slice_get}
use Rattle.row_defs.specs.Rows.{Row}
use Rattle.row_defs.specs.LocalOps.{LocalOp}
use Rattle.row_defs.specs.Operands.{Root, stored_root, count_root}
use Rattle.block_pool.specs.Handles.{HandValue, HasHit, Follows}
use Rattle.lop_chain.specs.Ops.{rows_from}
use Rattle.scatter.specs.Lines.{Lines, root_rows}

-- the rows that arrive: what the local lines make of the root's
abbrev pub arriving : Lines → Root → List LocalOp → List Row
arriving lines root ops = rows_from ops (root_rows lines root)

-- the hand's disk tells
abbrev pub Tells : HandValue → Type 0
Tells a = a.pool.opening.tells ≡ true

-- the disks of all hands tell, or nothing is read from them
abbrev pub AreTold : Root → List HandValue → Type 0
AreTold (stored_root n) hands = All Tells hands
AreTold (count_root n rows) hands = ⊤

-- the hand has a permit
abbrev pub HasPermit : HandValue → Type 0
HasPermit a = 0 < a.permits

-- a hand's disk failed in this call, with this count; the hands before and after
pub record SomeHit (hands now : List HandValue) (count : ℕ) : Type 0 where
  pub rank : ℕ
  pub before : HandValue
  pub met : HandValue
  pub after : HandValue
  pub was : slice_get hands rank ≡ Some before
  pub is : slice_get now rank ≡ Some after
  pub hit : HasHit before.notes met.notes count
  pub later : Follows met after

-- The rows of operands, counted.
use Rattle.std.specs.Prelude.{◌≡◌, ℕ, ◌≤◌, List, All, length, Vec}
use Rattle.std.specs.List.{AllZip}
use Rattle.std.specs.declared.alloc.Global.{Global}
use Rattle.row_defs.specs.Limits.{most_rows}
use Rattle.row_defs.specs.Operands.{Operand}
use Rattle.block_pool.specs.Handles.{HandValue}
use Rattle.scatter.specs.Lines.{Lines}
use Rattle.scatter.specs.Told.{Tells}
use Rattle.dealing.specs.Operands.{IsCounted, count_all, arriving_all}

-- for each operand how many rows each worker has, and how many there are in all: those that arrive, where the disks tell
pub record AreCounted (lines : Lines) (workers : ℕ) (hands : List HandValue) (operands : List Operand) (counts : List (Vec ℕ Global)) (total : ℕ) : Type 0 where
  pub each : AllZip (IsCounted lines workers hands) operands counts
  pub total_is : count_all counts ≡ total
  pub few : total ≤ most_rows
  pub arrive : All Tells hands → total ≡ length (arriving_all lines operands)

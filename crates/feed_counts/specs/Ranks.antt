-- The rows that each worker's feed gives.
use Rattle.std.specs.Prelude.{ℕ, false, List, map, length}
use Rattle.row_defs.specs.Rows.{Row}
use Rattle.row_defs.specs.LocalOps.{LocalOp}
use Rattle.row_defs.specs.Operands.{Root}
use Rattle.lop_chain.specs.Ops.{rows_from}
use Rattle.scatter.specs.Feeds.{FeedValue}
use Rattle.scatter.specs.Lines.{Lines, root_feeds}

-- by rank, what the local lines make of each worker's part of the root
abbrev pub rows_by_rank : Lines → ℕ → Root → List LocalOp → List (List Row)
rows_by_rank lines workers root ops = map (λ (f : FeedValue). rows_from ops f.left) (root_feeds lines workers root false ops)

abbrev pub row_counts : List (List Row) → List ℕ
row_counts ranks = map length ranks

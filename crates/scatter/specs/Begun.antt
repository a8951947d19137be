-- A phase that has begun.
use Rattle.std.specs.Prelude.{◌≡◌, ◌≤◌, ℕ, List, map, All, vec_len}
use Rattle.std.specs.List.{AllZip}
use Rattle.row_defs.specs.LocalOps.{LocalOp}
use Rattle.block_pool.specs.Handles.{HandValue}
use Rattle.lop_chain.specs.Operands.{root_in}
use Rattle.lop_chain.specs.declared.sink.RowSink.{Ghosts}
use Rattle.scatter.specs.declared.phase.Phase.{Phase}
use Rattle.scatter.specs.Feeds.{FeedValue}
use Rattle.scatter.specs.Fitting.{RestsOnHands}
use Rattle.scatter.specs.Lines.{Lines, IsFedFrom, HasRoot, root_feeds}
use Rattle.scatter.specs.Stocks.{lines_of, IsToRestore}
use Rattle.scatter.specs.Phases.{AllThree, HasBegun, HasRoomFor, IsOwn, file_kept}

-- nothing is pinned, and one block is at most
abbrev pub IsNew : FeedValue → Type 0
IsNew f = (f.pinned ≡ 0) × (f.pins ≤ 1)

-- each work has its feed and its sink, and room for the way back; these are the lines in stock
pub record IsBegun {D X S R : Type 0} (g : Ghosts S HandValue R) (phase : Phase D X S) (lines : Lines) (workers : ℕ) : Type 0 where
  pub works : AllThree HasBegun phase.feeds_were.value.items phase.sinks_were.value.items phase.began.value.items
  pub ops : List LocalOp
  pub feeds : phase.feeds_were.value.items ≡ root_feeds (lines_of phase.stock_was.value) phase.stock_was.value.workers (root_in phase.root) phase.last ops
  pub new : All IsNew phase.feeds_were.value.items
  pub own : AllZip IsOwn phase.began.value.items phase.hands_were.value.items
  pub room : HasRoomFor (vec_len phase.feeds_were.value) phase.back
  pub rests : RestsOnHands g
  pub had : HasRoot (lines_of phase.stock_was.value) (root_in phase.root)
  pub fed : IsFedFrom (lines_of phase.stock_was.value) (root_in phase.root) phase.last lines
  pub lent : IsToRestore (root_in phase.root) phase.last lines workers (map file_kept phase.began.value.items)

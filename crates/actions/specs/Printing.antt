-- What the printing of all workers' feeds, one after the other, comes to.
use Rattle.std.specs.Prelude.{◌≡◌, ℕ, ◌≤◌, List, [], ◌++◌, All, Result, Ok, Err, OnOk}
use Rattle.std.specs.List.{AllZip, flat_map}
use Rattle.row_defs.specs.Rows.{Row}
use Rattle.row_defs.specs.LocalOps.{AreSoundOps}
use Rattle.dia_edge.specs.Sinks.{Puts}
use Rattle.dia_edge.specs.declared.refusals.Failed.{Failed}
use Rattle.dia_edge.specs.declared.sink.Sink.{Ghosts}
use Rattle.block_pool.specs.Handles.{HandValue, AreOfPool, Follows}
use Rattle.lop_chain.specs.Rows.{Kinds}
use Rattle.lop_chain.specs.Ops.{rows_from}
use Rattle.scatter.specs.declared.feed_err.FeedErr.{FeedErr}
use Rattle.scatter.specs.declared.feed_err.FeedErr.TheVariants as feeds
use Rattle.scatter.specs.Feeds.{FeedValue}
use Rattle.scatter.specs.Steps.{IsTold}
use Rattle.feed_print.specs.Printing.{texts_of_rows, printed, refused, Prints}
use Rattle.scatter.specs.Told.{Tells, SomeHit}

-- the rows that the chains make of the rows of all feeds
abbrev pub rows_of_feeds : List FeedValue → List Row
rows_of_feeds feeds = flat_map (λ (f : FeedValue). rows_from f.ops f.left) feeds

-- the rows of each feed are known, by its worker's hand
abbrev pub AreToldFeeds : List FeedValue → List HandValue → Type 0
AreToldFeeds feeds hands = AllZip (λ (f : FeedValue) (a : HandValue). IsTold a.pool f) feeds hands

-- a feed that has just begun may be printed with this hand
pub record CanPrint (f : FeedValue) (a : HandValue) : Type 0 where
  pub kinds : Kinds
  pub sound : AreSoundOps f.kinds f.ops kinds
  pub own : AreOfPool a.pool f.blocks
  pub permit : f.pins ≤ a.permits
  pub fresh : f.pinned ≡ 0

-- a feed was printed and then ended: the hand before and after, and where nothing was refused no row is left
pub record PrintedOne {S : Type 0} (g : Ghosts S) (f : FeedValue) (a : HandValue) (old : S) (waits : List ℕ) (answer : Result (Unit {0}) (FeedErr Failed)) (b : HandValue) (new : S) (now : List ℕ) : Type 0 where
  pub left : FeedValue
  pub met : HandValue
  pub prints : Prints g f a old waits answer left met new now
  pub end : OnOk answer (left.left ≡ [])
  pub later : Follows met b

-- the texts of rows were put behind what waited: where the rows are known, of all of them
pub record PrintedAll {S : Type 0} (g : Ghosts S) (told : Type 0) (rows : List Row) (old new : S) (waits now : List ℕ) : Type 0 where
  pub made : List Row
  pub puts : Puts g.taken g.faults old new (waits ++ texts_of_rows made) now printed
  pub all : told → rows ≡ made

-- .. of some of them: of the first ones, where the rows are known
pub record PrintedFirst {S : Type 0} (g : Ghosts S) (told : Type 0) (rows : List Row) (old new : S) (waits now : List ℕ) (result : Result (Unit {0}) Failed) : Type 0 where
  pub made : List Row
  pub rest : List Row
  pub puts : Puts g.taken g.faults old new (waits ++ texts_of_rows made) now result
  pub first : told → rows ≡ made ++ rest

-- why not all rows were printed, with the hands before and after
abbrev pub NotAllPrinted : {S : Type 0} → Ghosts S → Type 0 → List Row → List HandValue → S → List ℕ → FeedErr Failed → List HandValue → S → List ℕ → Type 0
NotAllPrinted g told rows hands old waits (feeds.Sink e) later new now = PrintedFirst g told rows old new waits now (refused e)
NotAllPrinted g told rows hands old waits (feeds.Disk count) later new now = PrintedFirst g told rows old new waits now printed × SomeHit hands later count
NotAllPrinted g told rows hands old waits feeds.Damaged later new now = PrintedFirst g told rows old new waits now printed × (All Tells hands → ⊥)
NotAllPrinted g told rows hands old waits feeds.NoMemory later new now = PrintedFirst g told rows old new waits now printed

-- what the printing of these rows, which are known where `told` holds, came to
abbrev pub HasPrinted : {S : Type 0} → Ghosts S → Type 0 → List Row → List HandValue → S → List ℕ → Result (Unit {0}) (FeedErr Failed) → List HandValue → S → List ℕ → Type 0
HasPrinted g told rows hands old waits (Ok done) later new now = PrintedAll g told rows old new waits now
HasPrinted g told rows hands old waits (Err e) later new now = NotAllPrinted g told rows hands old waits e later new now

-- What a step of a feed does.
use Rattle.std.specs.Prelude.{◌≡◌, suc, ◌+◌, ◌<◌, Bool, true, false, [], ◌∷◌, length, Result, IfOk, IfErr, OnOk}
use Rattle.std.specs.Bool.{OnTrue, OnFalse}
use Rattle.row_defs.specs.Rows.{Row, kinds_of}
use Rattle.row_defs.specs.LocalOps.{rows_through}
use Rattle.pool_core.specs.declared.refusals.PinErr.{PinErr}
use Rattle.pool_core.specs.declared.refusals.PinErr.TheVariants as pin
use Rattle.block_pool.specs.Handles.{PoolName, HandValue, AreOfPool, HasHit, Follows}
use Rattle.lop_chain.specs.Rows.{Kinds}
use Rattle.lop_chain.specs.Calls.{TookSome}
use Rattle.lop_chain.specs.declared.sink.RowSink.{Ghosts}
use Rattle.scatter.specs.declared.feed_err.FeedErr.{FeedErr}
use Rattle.scatter.specs.declared.feed_err.FeedErr.TheVariants.{Sink, Disk, Damaged, NoMemory}
use Rattle.scatter.specs.Feeds.{FeedValue}
use Rattle.scatter.specs.Fitting.{CanFeed}

abbrev pub read_refusal : {R : Type 0} → PinErr → FeedErr R
read_refusal (pin.Disk count) = Disk count
read_refusal pin.Damaged = Damaged
read_refusal pin.NoMemory = NoMemory

-- the rows are known: the disk tells, or none are read from it
abbrev pub IsTold : PoolName → FeedValue → Type 0
IsTold pool f = 0 < f.pins → pool.opening.tells ≡ true

-- one row fewer is left; it has the kinds, and where the rows are known it is the next one
pub record GivesRow (pool : PoolName) (before : FeedValue) (row : Row) (after : FeedValue) : Type 0 where
  pub count : length before.left ≡ suc (length after.left)
  pub are : kinds_of row ≡ before.kinds
  pub told : IsTold pool before → before.left ≡ row ∷ after.left

-- the feed is of the same rows, through the same lines
pub record IsSameFeed (before after : FeedValue) : Type 0 where
  pub kinds : after.kinds ≡ before.kinds
  pub ops : after.ops ≡ before.ops
  pub keeps : after.keeps ≡ before.keeps
  pub pins : after.pins ≡ before.pins

-- one row of the source was pushed: the sink took all that was made of it
pub record IsFed {S R : Type 0} (g : Ghosts S HandValue R) (f : FeedValue) (s : S) (a : HandValue) (h : FeedValue) (t : S) : Type 0 where
  pub row : Row
  pub gives : GivesRow a.pool f row h
  pub took : g.took s (rows_through f.ops row) t

-- no row was left
pub record IsAtEnd {S : Type 0} (f : FeedValue) (s : S) (h : FeedValue) (t : S) : Type 0 where
  pub none : f.left ≡ []
  pub still : h.left ≡ []
  pub sink : t ≡ s

-- the sink refused what was made of the next row, at the first of them or at a later one
pub record IsRefused {S R : Type 0} (g : Ghosts S HandValue R) (f : FeedValue) (s : S) (a : HandValue) (e : R) (h : FeedValue) (t : S) (b : HandValue) : Type 0 where
  pub row : Row
  pub gives : GivesRow a.pool f row h
  pub some : TookSome g s a (rows_through f.ops row) e t b

-- the sink is as it was, as many rows are left, and where the rows are known they are the same ones
pub record IsUnfed {S : Type 0} (f : FeedValue) (s : S) (a : HandValue) (h : FeedValue) (t : S) (b : HandValue) : Type 0 where
  pub sink : t ≡ s
  pub count : length h.left ≡ length f.left
  pub told : IsTold a.pool f → h.left ≡ f.left
  pub permits : b.permits + h.pinned ≡ a.permits + f.pinned

-- why a step pushed no row, and what it left
abbrev pub NotFed : {S R : Type 0} → Ghosts S HandValue R → FeedValue → S → HandValue → FeedErr R → FeedValue → S → HandValue → Type 0
NotFed g f s a (Sink e) h t b = IsRefused g f s a e h t b
NotFed g f s a (Disk count) h t b = IsUnfed f s a h t b × HasHit a.notes b.notes count
NotFed g f s a Damaged h t b = IsUnfed f s a h t b × (a.pool.opening.tells ≡ true → ⊥)
NotFed g f s a NoMemory h t b = IsUnfed f s a h t b

-- a step: the feed, the sink and the hand before, what it answered, and the three after
pub record IsStep {S R : Type 0} (g : Ghosts S HandValue R) (f : FeedValue) (s : S) (a : HandValue) (result : Result Bool (FeedErr R)) (h : FeedValue) (t : S) (b : HandValue) : Type 0 where
  pub fed : IfOk result (λ more. OnTrue more (IsFed g f s a h t))
  pub end : IfOk result (λ more. OnFalse more (IsAtEnd f s h t))
  pub refused : IfErr result (λ e. NotFed g f s a e h t b)
  pub accepts : OnOk result ((kinds : Kinds) → g.accepts s kinds → g.accepts t kinds)
  pub accepted : OnOk result ((kinds : Kinds) → g.accepts t kinds → g.accepts s kinds)
  pub can : OnOk result (CanFeed g h t b)
  pub is_open : OnOk result (g.is_shut t ≡ false)
  pub held : OnOk result (g.held t b + h.pinned ≡ g.held s a + f.pinned)
  pub same : IsSameFeed f h
  pub own : AreOfPool b.pool h.blocks
  pub follows : Follows a b
  pub stays : g.stays s t

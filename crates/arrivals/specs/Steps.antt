-- What a row of a reader comes to that is pushed into a sink.
use Rattle.std.specs.Prelude.{◌≡◌, ℕ, ◌+◌, ◌<◌, ◌≤◌, Bool, true, false, [], ◌∷◌, cond, Result, IfOk, IfErr, OnOk}
use Rattle.std.specs.Bool.{OnTrue, OnFalse}
use Rattle.row_defs.specs.Rows.{Row}
use Rattle.block_pool.specs.Handles.{HandValue, AreOfPool, HasHit, Follows}
use Rattle.lop_chain.specs.Rows.{Kinds}
use Rattle.lop_chain.specs.declared.sink.RowSink.{Ghosts}
use Rattle.mix_stream.specs.Reading.{Reading, IsNext, IsSame, IsDone, IsDamaged, blocks_of, bytes_of, pins}
use Rattle.scatter.specs.declared.feed_err.FeedErr.{FeedErr}
use Rattle.scatter.specs.declared.feed_err.FeedErr.TheVariants.{Sink, Disk, Damaged, NoMemory}

-- so many blocks are pinned: one or none
abbrev pub IsPinned : Bool → Reading → Type 0
IsPinned pinned r = pins r ≡ cond pinned 1 0

-- the hand serves the sink; where no block is pinned, also with one permit fewer, which is there
pub record CanServe {S R : Type 0} (g : Ghosts S HandValue R) (r : Reading) (s : S) (a : HandValue) : Type 0 where
  pub serves : (b : HandValue) → b.pool ≡ a.pool → a.permits + pins r ≤ b.permits + 1 → g.serves s b
  pub permit : 0 < a.permits + pins r

-- the row is the first one by rank of those that are left
pub record IsFirst (r : Reading) (a : HandValue) (row : Row) (q : Reading) : Type 0 where
  pub next : IsNext a.pool q.from row r q
  pub lower : (j : ℕ) → j < q.from → bytes_of j r ≡ []

-- one row was read, and the sink took it
pub record IsPushed {S R : Type 0} (g : Ghosts S HandValue R) (r : Reading) (s : S) (a : HandValue) (q : Reading) (t : S) (b : HandValue) : Type 0 where
  pub row : Row
  pub first : IsFirst r a row q
  pub took : g.took s (row ∷ []) t
  pub serves : g.serves t b

-- no row was left
pub record IsAtEnd {S : Type 0} (r : Reading) (s : S) (a : HandValue) (q : Reading) (t : S) (b : HandValue) : Type 0 where
  pub none : IsDone q
  pub same : IsSame a.pool r q
  pub sink : t ≡ s
  pub permits : b.permits + pins q ≡ a.permits + pins r

-- the sink refused the next row
pub record IsRefused {S R : Type 0} (g : Ghosts S HandValue R) (r : Reading) (s : S) (a : HandValue) (e : R) (q : Reading) (t : S) (b : HandValue) : Type 0 where
  pub row : Row
  pub first : IsFirst r a row q
  pub refused : g.refused s a row e t b
  pub shut : g.is_shut t ≡ true

-- the sink is as it was, and nothing was read
pub record IsUnread {S : Type 0} (r : Reading) (s : S) (a : HandValue) (q : Reading) (t : S) (b : HandValue) : Type 0 where
  pub sink : t ≡ s
  pub same : IsSame a.pool r q
  pub permits : b.permits + pins q ≡ a.permits + pins r

-- why a step pushed no row, and what it left
abbrev pub NotPushed : {S R : Type 0} → Ghosts S HandValue R → Reading → S → HandValue → FeedErr R → Reading → S → HandValue → Type 0
NotPushed g r s a (Sink e) q t b = IsRefused g r s a e q t b
NotPushed g r s a (Disk count) q t b = IsUnread r s a q t b × HasHit a.notes b.notes count
NotPushed g r s a Damaged q t b = IsUnread r s a q t b × (a.pool.opening.tells ≡ true → IsDamaged r)
NotPushed g r s a NoMemory q t b = IsUnread r s a q t b

-- a step: the reader, the sink and the hand before, what it answered, and the three after
pub record IsStep {S R : Type 0} (g : Ghosts S HandValue R) (r : Reading) (s : S) (a : HandValue) (result : Result Bool (FeedErr R)) (q : Reading) (t : S) (b : HandValue) : Type 0 where
  pub pushed : IfOk result (λ more. OnTrue more (IsPushed g r s a q t b))
  pub end : IfOk result (λ more. OnFalse more (IsAtEnd r s a q t b))
  pub refused : IfErr result (λ e. NotPushed g r s a e q t b)
  pub accepts : OnOk result ((kinds : Kinds) → g.accepts s kinds → g.accepts t kinds)
  pub accepted : OnOk result ((kinds : Kinds) → g.accepts t kinds → g.accepts s kinds)
  pub is_open : OnOk result (g.is_shut t ≡ false)
  pub held : OnOk result (g.held t b + pins q ≡ g.held s a + pins r)
  pub kinds : q.kinds ≡ r.kinds
  pub one : pins q ≤ 1
  pub own : AreOfPool b.pool (blocks_of q)
  pub follows : Follows a b
  pub stays : g.stays s t

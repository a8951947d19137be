-- What comes of several rows of a feed that are pushed into a sink.
use Rattle.std.specs.Prelude.{◌≡◌, ◌+◌, true, false, List, [], ◌∷◌, ◌++◌, length, All}
use Rattle.row_defs.specs.Rows.{Row}
use Rattle.block_pool.specs.Handles.{PoolName, HandValue, AreOfPool, HasHit, Follows}
use Rattle.lop_chain.specs.Rows.{Kinds, IsRowOf}
use Rattle.lop_chain.specs.Ops.{rows_from}
use Rattle.lop_chain.specs.declared.sink.RowSink.{Ghosts}
use Rattle.row_defs.specs.LocalOps.{AreSoundOps}
use Rattle.scatter.specs.declared.feed_err.FeedErr.{FeedErr}
use Rattle.scatter.specs.declared.feed_err.FeedErr.TheVariants.{Sink, Disk, Damaged, NoMemory}
use Rattle.scatter.specs.Feeds.{FeedValue}
use Rattle.scatter.specs.Fitting.{RestsOnHands, CanFeed}
use Rattle.scatter.specs.Steps.{IsTold, IsSameFeed}

-- these rows were given: so many fewer are left; they have the kinds, and where the rows are known they were the next ones
pub record GivesRows (pool : PoolName) (before : FeedValue) (rows : List Row) (after : FeedValue) : Type 0 where
  pub count : length before.left ≡ length rows + length after.left
  pub are : All (IsRowOf before.kinds) rows
  pub told : IsTold pool before → before.left ≡ rows ++ after.left

-- the sink took all that was made of these rows, and takes more of the same kinds
pub record IsSent {S R : Type 0} (g : Ghosts S HandValue R) (pool : PoolName) (f : FeedValue) (s : S) (h : FeedValue) (t : S) : Type 0 where
  pub rows : List Row
  pub gives : GivesRows pool f rows h
  pub took : g.took s (rows_from f.ops rows) t
  pub accepts : (kinds : Kinds) → g.accepts s kinds → g.accepts t kinds
  pub accepted : (kinds : Kinds) → g.accepts t kinds → g.accepts s kinds
  pub is_open : g.is_shut t ≡ false

-- the sink took a proper prefix of what is made of these rows, and refused the next one: nothing was offered after that
pub record IsCutOff {S R : Type 0} (g : Ghosts S HandValue R) (f : FeedValue) (s : S) (a : HandValue) (e : R) (h : FeedValue) (t : S) (b : HandValue) : Type 0 where
  pub rows : List Row
  pub gives : GivesRows a.pool f rows h
  pub prefix : List Row
  pub next : Row
  pub back : List Row
  pub at : S  -- the sink when `next` was refused
  pub parts : rows_from f.ops rows ≡ prefix ++ next ∷ back
  pub took : g.took s prefix at
  pub refused : g.refused at a next e t b
  pub shut : g.is_shut t ≡ true

-- why not all rows were pushed, and what the sink took before
abbrev pub Unsent : {S R : Type 0} → Ghosts S HandValue R → FeedValue → S → HandValue → FeedErr R → FeedValue → S → HandValue → Type 0
Unsent g f s a (Sink e) h t b = IsCutOff g f s a e h t b
Unsent g f s a (Disk count) h t b = IsSent g a.pool f s h t × HasHit a.notes b.notes count
Unsent g f s a Damaged h t b = IsSent g a.pool f s h t × (a.pool.opening.tells ≡ true → ⊥)
Unsent g f s a NoMemory h t b = IsSent g a.pool f s h t

-- what the sink holds is the same, where a pinned block counts as a permit
abbrev pub HoldsStill : {S R : Type 0} → Ghosts S HandValue R → FeedValue → S → HandValue → FeedValue → S → HandValue → Type 0
HoldsStill g f s a h t b = g.held t b + h.pinned ≡ g.held s a + f.pinned

-- the feed may be pushed into the sink, with this hand
pub record CanSend {S R : Type 0} (g : Ghosts S HandValue R) (f : FeedValue) (s : S) (a : HandValue) : Type 0 where
  pub kinds : Kinds
  pub sound : AreSoundOps f.kinds f.ops kinds
  pub accepts : g.accepts s kinds
  pub own : AreOfPool a.pool f.blocks
  pub rests : RestsOnHands g
  pub can : CanFeed g f s a
  pub is_open : g.is_shut s ≡ false

-- what holds of a feed, a sink and a hand and later states of them, whatever was answered
pub record Goes {S R : Type 0} (g : Ghosts S HandValue R) (f : FeedValue) (s : S) (a : HandValue) (h : FeedValue) (t : S) (b : HandValue) : Type 0 where
  pub follows : Follows a b
  pub same : IsSameFeed f h
  pub stays : g.stays s t
  pub own : AreOfPool a.pool f.blocks → AreOfPool b.pool h.blocks
  pub held : g.is_shut t ≡ false → (g.is_shut s ≡ false) × HoldsStill g f s a h t b

-- the same of a work, of which it is also known how its feed and its sink began
pub record HasGone {S R : Type 0} (g : Ghosts S HandValue R) (f0 : FeedValue) (s0 : S) (f : FeedValue) (s : S) (a : HandValue) (f1 : FeedValue) (s1 : S) (h : FeedValue) (t : S) (b : HandValue) : Type 0 where
  pub goes : Goes g f s a h t b
  pub desk : g.follows a b
  pub feed_was : f1 ≡ f0
  pub sink_was : s1 ≡ s0

-- a work may go on: what its sink took is what was made of the rows that its feed gave
pub record CanGoOn {S R : Type 0} (g : Ghosts S HandValue R) (f0 : FeedValue) (s0 : S) (f : FeedValue) (s : S) (a : HandValue) : Type 0 where
  pub can : CanSend g f s a
  pub sent : IsSent g a.pool f0 s0 f s
  pub same : IsSameFeed f0 f

-- all rows were pushed
pub record IsAllSent {S R : Type 0} (g : Ghosts S HandValue R) (f : FeedValue) (s : S) (h : FeedValue) (t : S) (b : HandValue) : Type 0 where
  pub sent : IsSent g b.pool f s h t
  pub none : h.left ≡ []
  pub can : CanFeed g h t b

-- what a sink's laws say
pub record HasLaws {S D R : Type 0} (g : Ghosts S D R) : Type 0 where
  pub took_none : (s : S) → g.took s [] s
  pub took_more : (a b c : S) (xs ys : List Row) → g.took a xs b → g.took b ys c → g.took a (xs ++ ys) c
  pub stays_refl : (s : S) → g.stays s s
  pub stays_trans : (a b c : S) → g.stays a b → g.stays b c → g.stays a c
  pub refused_from : (s t : S) (a b c : D) (row : Row) (e : R) → g.follows a b → g.refused s b row e t c → g.refused s a row e t c

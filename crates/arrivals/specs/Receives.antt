-- What comes of several rows of a reader that are pushed into a sink.
use Rattle.std.specs.Prelude.{◌≡◌, ◌+◌, ◌<◌, Bool, true, false, List, [], ◌∷◌, ◌++◌, length, All}
use Rattle.row_defs.specs.declared.kind.Kind.{Kind}
use Rattle.row_defs.specs.Rows.{Row}
use Rattle.block_pool.specs.Handles.{PoolName, HandValue, AreOfPool, HasHit, Follows}
use Rattle.lop_chain.specs.Rows.{Kinds, IsRowOf}
use Rattle.lop_chain.specs.declared.sink.RowSink.{Ghosts}
use Rattle.mix_stream.specs.Reading.{Reading, IsDone, blocks_of, pins}
use Rattle.scatter.specs.declared.feed_err.FeedErr.{FeedErr}
use Rattle.scatter.specs.declared.feed_err.FeedErr.TheVariants.{Sink, Disk, Damaged, NoMemory}
use Rattle.scatter.specs.Fitting.{RestsOnHands}
use Rattle.arrivals.specs.Boxes.{HasLeft, joined}
use Rattle.arrivals.specs.Steps.{IsPinned, CanServe}

-- of these lists the rows come first, by rank, and the rest is left
pub record ComeFirst (lists : List (List Row)) (rows : List Row) (left : Reading) : Type 0 where
  pub rest : List (List Row)
  pub left_is : HasLeft left rest
  pub parts : joined lists ≡ rows ++ joined rest

-- These rows were read. They have the kinds, and where the pool tells, and lists were held, they come first of these.
pub record GivesRows (pool : PoolName) (kinds : List Kind) (held : List (List Row) → Type 0) (rows : List Row) (left : Reading) : Type 0 where
  pub are : All (IsRowOf kinds) rows
  pub told : pool.opening.tells ≡ true → (lists : List (List Row)) → held lists → ComeFirst lists rows left

-- the sink took these rows, and takes more of the same kinds
pub record IsReceived {S R : Type 0} (g : Ghosts S HandValue R) (pool : PoolName) (kinds : List Kind) (held : List (List Row) → Type 0) (s : S) (left : Reading) (t : S) : Type 0 where
  pub rows : List Row
  pub gives : GivesRows pool kinds held rows left
  pub took : g.took s rows t
  pub accepts : (kinds : Kinds) → g.accepts s kinds → g.accepts t kinds
  pub accepted : (kinds : Kinds) → g.accepts t kinds → g.accepts s kinds
  pub is_open : g.is_shut t ≡ false

-- the sink took these rows, and refused the next one: nothing was offered after that
pub record IsCutOff {S R : Type 0} (g : Ghosts S HandValue R) (kinds : List Kind) (held : List (List Row) → Type 0) (s : S) (a : HandValue) (e : R) (left : Reading) (t : S) (b : HandValue) : Type 0 where
  pub rows : List Row
  pub next : Row
  pub at : S  -- the sink when `next` was refused
  pub gives : GivesRows a.pool kinds held (rows ++ next ∷ []) left
  pub took : g.took s rows at
  pub refused : g.refused at a next e t b
  pub shut : g.is_shut t ≡ true

-- why not all rows were pushed, and what the sink took before
abbrev pub Unreceived : {S R : Type 0} → Ghosts S HandValue R → List Kind → (List (List Row) → Type 0) → S → HandValue → FeedErr R → Reading → S → HandValue → Type 0
Unreceived g kinds held s a (Sink e) q t b = IsCutOff g kinds held s a e q t b
Unreceived g kinds held s a (Disk count) q t b = IsReceived g a.pool kinds held s q t × HasHit a.notes b.notes count
Unreceived g kinds held s a Damaged q t b = IsReceived g a.pool kinds held s q t × (a.pool.opening.tells ≡ true → (lists : List (List Row)) → held lists → ⊥)
Unreceived g kinds held s a NoMemory q t b = IsReceived g a.pool kinds held s q t

-- what the sink holds is the same, where a pinned block counts as a permit
abbrev pub HoldsStill : {S R : Type 0} → Ghosts S HandValue R → Reading → S → HandValue → Reading → S → HandValue → Type 0
HoldsStill g r s a q t b = g.held t b + pins q ≡ g.held s a + pins r

-- the rows may be pushed into the sink, with this hand
pub record CanReceive {S R : Type 0} (g : Ghosts S HandValue R) (r : Reading) (s : S) (a : HandValue) : Type 0 where
  pub some : 0 < length r.kinds
  pub accepts : g.accepts s r.kinds
  pub own : AreOfPool a.pool (blocks_of r)
  pub rests : RestsOnHands g
  pub can : CanServe g r s a
  pub is_open : g.is_shut s ≡ false

-- what holds of a reader, a sink and a hand and later states of them, whatever was answered
pub record Goes {S R : Type 0} (g : Ghosts S HandValue R) (r : Reading) (s : S) (a : HandValue) (q : Reading) (t : S) (b : HandValue) : Type 0 where
  pub follows : Follows a b
  pub kinds : q.kinds ≡ r.kinds
  pub stays : g.stays s t
  pub own : AreOfPool a.pool (blocks_of r) → AreOfPool b.pool (blocks_of q)
  pub held : g.is_shut t ≡ false → (g.is_shut s ≡ false) × HoldsStill g r s a q t b

-- the same of a work, of which it is also known how its reader and its sink began
pub record HasGone {S R : Type 0} (g : Ghosts S HandValue R) (r0 : Reading) (s0 : S) (r : Reading) (s : S) (a : HandValue) (r1 : Reading) (s1 : S) (q : Reading) (t : S) (b : HandValue) : Type 0 where
  pub goes : Goes g r s a q t b
  pub desk : g.follows a b
  pub reader_was : r1 ≡ r0
  pub sink_was : s1 ≡ s0

-- a work may go on: its sink took the rows that its reader gave
pub record CanGoOn {S R : Type 0} (g : Ghosts S HandValue R) (r0 : Reading) (s0 : S) (r : Reading) (pinned : Bool) (s : S) (a : HandValue) : Type 0 where
  pub can : CanReceive g r s a
  pub pinned_is : IsPinned pinned r
  pub received : IsReceived g a.pool r0.kinds (HasLeft r0) s0 r s
  pub kinds : r.kinds ≡ r0.kinds

-- All rows were read. They have the kinds, and where the pool tells, and lists were held, they are these, by rank.
pub record AreAllRows (pool : PoolName) (kinds : List Kind) (held : List (List Row) → Type 0) (rows : List Row) : Type 0 where
  pub are : All (IsRowOf kinds) rows
  pub told : pool.opening.tells ≡ true → (lists : List (List Row)) → held lists → rows ≡ joined lists

-- the sink took all rows, and takes more of the same kinds
pub record TookAll {S R : Type 0} (g : Ghosts S HandValue R) (pool : PoolName) (kinds : List Kind) (held : List (List Row) → Type 0) (s t : S) : Type 0 where
  pub rows : List Row
  pub all : AreAllRows pool kinds held rows
  pub took : g.took s rows t
  pub accepts : (kinds : Kinds) → g.accepts s kinds → g.accepts t kinds
  pub accepted : (kinds : Kinds) → g.accepts t kinds → g.accepts s kinds
  pub is_open : g.is_shut t ≡ false

-- all rows were pushed
pub record IsAllReceived {S R : Type 0} (g : Ghosts S HandValue R) (r0 : Reading) (s0 : S) (q : Reading) (t : S) (b : HandValue) : Type 0 where
  pub all : TookAll g b.pool r0.kinds (HasLeft r0) s0 t
  pub none : IsDone q
  pub can : CanServe g q t b

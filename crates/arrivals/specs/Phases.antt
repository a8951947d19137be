-- What a phase leaves of the works that receive.
use Rattle.std.specs.Prelude.{◌≡◌, ◌+◌, ◌<◌, ◌≤◌, ℕ, false, List, length, map, Some, slice_get, vec_len, vec_capacity}
use Rattle.std.specs.List.{AllZip}
use Rattle.row_defs.specs.declared.kind.Kind.{Kind}
use Rattle.block_pool.specs.Handles.{PoolName, HandValue, AreOfPool, Follows}
use Rattle.lop_chain.specs.declared.sink.RowSink.{Ghosts}
use Rattle.multiplexer.specs.declared.inbox.Inbox.{Inbox}
use Rattle.mix_stream.specs.Packets.{bytes_from, blocks_in}
use Rattle.mix_stream.specs.Reading.{Reading, IsDone, blocks_of, bytes_of, pins}
use Rattle.scatter.specs.declared.feed_err.FeedErr.{FeedErr}
use Rattle.arrivals.specs.declared.ending.Back.{Back}
use Rattle.arrivals.specs.declared.receiving.Receiving.{Receiving}
use Rattle.arrivals.specs.Boxes.{Holds, HasLeft}
use Rattle.arrivals.specs.Receives.{TookAll, IsAllReceived, Unreceived, HasGone}

-- there is room for what comes back from so many works
pub record HasRoomFor {D S : Type 0} (count : ℕ) (back : Back D S) : Type 0 where
  pub no_hands : vec_len back.hands ≡ 0
  pub no_sinks : vec_len back.sinks ≡ 0
  pub for_hands : count ≤ vec_capacity back.hands
  pub for_sinks : count ≤ vec_capacity back.sinks

abbrev pub sink_in : {D S : Type 0} → Receiving D S → S
sink_in work = work.sink

-- the blocks that are left are of the hand's pool
abbrev pub IsOwn : {D S : Type 0} → Receiving D S → HandValue → Type 0
IsOwn work hand = AreOfPool hand.pool (blocks_of work.reader)

-- a hand before and after the end of a reader: what was pinned is a permit again, and the blocks that were left are freed
pub record IsEndOf (r : Reading) (before after : HandValue) : Type 0 where
  pub follows : Follows before after
  pub permits : after.permits ≡ before.permits + pins r
  pub gone : after.notes.gone ≡ before.notes.gone + length (blocks_of r)
  pub made : after.notes.made ≡ before.notes.made

abbrev pub IsEnded : {D S : Type 0} → Receiving D S → HandValue → HandValue → Type 0
IsEnded work before after = IsEndOf work.reader before after

-- a reader of a box, which has read nothing
pub record IsReaderOf (kinds : List Kind) (box : Inbox) (r : Reading) : Type 0 where
  pub kinds_are : r.kinds ≡ kinds
  pub bytes : (k : ℕ) → bytes_of k r ≡ bytes_from k box.packets.items
  pub none : pins r ≡ 0
  pub own : (pool : PoolName) → AreOfPool pool (blocks_in box.packets.items) → AreOfPool pool (blocks_of r)

-- a work that has not begun: its reader and its sink
pub record HasStarted {D S : Type 0} (reader : Reading) (sink : S) (work : Receiving D S) : Type 0 where
  pub reader_is : work.reader ≡ reader
  pub sink_is : work.sink ≡ sink
  pub pinned_is : work.pinned ≡ false
  pub reader_was : work.reader_was.value ≡ reader
  pub sink_was : work.sink_was.value ≡ sink

-- the same, of its box
pub record HasBegun {D S : Type 0} (kinds : List Kind) (box : Inbox) (sink : S) (work : Receiving D S) : Type 0 where
  pub of_box : IsReaderOf kinds box work.reader
  pub started : HasStarted work.reader sink work

-- what a worker did in a phase: its box, its sink and its hand before, and its reader, its sink and its hand when it had ended
pub record Turn (S : Type 0) : Type 0 where
  pub box : Inbox
  pub sink : S
  pub hand : HandValue
  pub left : Reading
  pub took : S
  pub met : HandValue

-- these are the turns of all workers, by rank
pub record AreTurns {S : Type 0} (turns : List (Turn S)) (boxes : List Inbox) (sinks : List S) (hands : List HandValue) (took : List S) : Type 0 where
  pub boxes_are : map (λ (t : Turn S). t.box) turns ≡ boxes
  pub sinks_are : map (λ (t : Turn S). t.sink) turns ≡ sinks
  pub hands_are : map (λ (t : Turn S). t.hand) turns ≡ hands
  pub took_is : map (λ (t : Turn S). t.took) turns ≡ took

-- the sink took all rows of the box
abbrev pub TookBox : {S R : Type 0} → Ghosts S HandValue R → List Kind → Turn S → Type 0
TookBox g kinds t = TookAll g t.hand.pool kinds (Holds kinds t.box.packets.items) t.sink t.took

-- and with the hand at the end of the phase it holds what it held, and is served; no block of the box is left
pub record IsServed {S R : Type 0} (g : Ghosts S HandValue R) (kinds : List Kind) (t : Turn S) (now : HandValue) : Type 0 where
  pub all : TookBox g kinds t
  pub serves : g.serves t.took now
  pub held : g.held t.took now ≡ g.held t.sink t.hand
  pub none : IsDone t.left
  pub ended : IsEndOf t.left t.met now

-- each sink took all rows of its box
pub record HasReceived {S R : Type 0} (g : Ghosts S HandValue R) (kinds : List Kind) (boxes : List Inbox) (sinks : List S) (hands : List HandValue) (took : List S) (now : List HandValue) : Type 0 where
  pub turns : List (Turn S)
  pub are : AreTurns turns boxes sinks hands took
  pub all : AllZip (IsServed g kinds) turns now

-- the worker of this rank stopped with this fault, and those of lower ranks received all
pub record HasStopped {S R : Type 0} (g : Ghosts S HandValue R) (kinds : List Kind) (boxes : List Inbox) (sinks : List S) (hands : List HandValue) (took : List S) (now : List HandValue) (e : FeedErr R) : Type 0 where
  pub turns : List (Turn S)
  pub are : AreTurns turns boxes sinks hands took
  pub ended : AllZip (λ (t : Turn S) (c : HandValue). IsEndOf t.left t.met c) turns now
  pub rank : ℕ
  pub turn : Turn S
  pub at : slice_get turns rank ≡ Some turn
  pub unreceived : Unreceived g kinds (Holds kinds turn.box.packets.items) turn.sink turn.hand e turn.left turn.took turn.met
  pub lower : (k : ℕ) (t : Turn S) → k < rank → slice_get turns k ≡ Some t → TookBox g kinds t

-- what a work has gone through in a phase, that it is done, and that it faulted
abbrev pub Gone : {D S R : Type 0} → Ghosts S HandValue R → Receiving D S → HandValue → Receiving D S → HandValue → Type 0
Gone g w a v b = HasGone g w.reader_was.value w.sink_was.value w.reader w.sink a v.reader_was.value v.sink_was.value v.reader v.sink b

abbrev pub Done : {D S R : Type 0} → Ghosts S HandValue R → Receiving D S → HandValue → Type 0
Done g v b = IsAllReceived g v.reader_was.value v.sink_was.value v.reader v.sink b

abbrev pub Faulted : {D S R : Type 0} → Ghosts S HandValue R → HandValue → FeedErr R → Receiving D S → HandValue → Type 0
Faulted g a e v b = Unreceived g v.reader_was.value.kinds (HasLeft v.reader_was.value) v.sink_was.value a e v.reader v.sink b

-- What a phase leaves of the works that send.
use Rattle.std.specs.Prelude.{◌≡◌, ◌+◌, ◌<◌, ◌≤◌, ℕ, Bool, true, false, List, [], ◌∷◌, map, ⊤, Option, None, Some, Result, Ok, Err, slice_get, vec_len, vec_capacity}
use Rattle.row_defs.specs.Operands.{Root, stored_root, count_root}
use Rattle.std.specs.List.{AllZip}
use Rattle.block_pool.specs.Handles.{PoolName, HandValue, AreOfPool, Follows}
use Rattle.lop_chain.specs.Rows.{Kinds}
use Rattle.lop_chain.specs.declared.sink.RowSink.{Ghosts}
use Rattle.lent_step.specs.declared.phase.Stopped.{Stopped}
use Rattle.lent_step.specs.declared.phase.Stopped.TheVariants as stopped
use Rattle.scatter.specs.declared.feed_err.FeedErr.{FeedErr}
use Rattle.scatter.specs.declared.feed_err.FeedErr.TheVariants.{NoMemory}
use Rattle.dia_file.specs.Files.{FileValue}
use Rattle.scatter.specs.declared.ending.Back.{Back}
use Rattle.scatter.specs.declared.sending.Sending.{Sending}
use Rattle.scatter.specs.Feeds.{FeedValue}
use Rattle.scatter.specs.Lines.{LineValue, Lines, Sets, with_parts}
use Rattle.scatter.specs.Sends.{IsSent, Unsent, HasGone, IsAllSent}

-- R holds at each place of three lists
abbrev pub AllThree : {A B C : Type 0} → (A → B → C → Type 0) → List A → List B → List C → Type 0
AllThree R [] [] [] = ⊤
AllThree R [] [] (z ∷ zs) = ⊥
AllThree R [] (y ∷ ys) zs = ⊥
AllThree R (x ∷ xs) [] zs = ⊥
AllThree R (x ∷ xs) (y ∷ ys) [] = ⊥
AllThree R (x ∷ xs) (y ∷ ys) (z ∷ zs) = R x y z × AllThree R xs ys zs

-- there is room for what comes back from so many works
pub record HasRoomFor {D S : Type 0} (count : ℕ) (back : Back D S) : Type 0 where
  pub no_hands : vec_len back.hands ≡ 0
  pub no_parts : vec_len back.parts ≡ 0
  pub no_sinks : vec_len back.sinks ≡ 0
  pub for_hands : count ≤ vec_capacity back.hands
  pub for_parts : count ≤ vec_capacity back.parts
  pub for_sinks : count ≤ vec_capacity back.sinks

abbrev pub file_kept : {D S : Type 0} → Sending D S → Option FileValue
file_kept send = send.feed.keeps

abbrev pub sink_in : {D S : Type 0} → Sending D S → S
sink_in send = send.sink

-- what the feed has blocks of is the hand's pool
abbrev pub IsOwn : {D S : Type 0} → Sending D S → HandValue → Type 0
IsOwn send hand = AreOfPool hand.pool send.feed.blocks

-- the hand after the end of its feed: what was pinned is a permit again
abbrev pub IsEnded : {D S : Type 0} → Sending D S → HandValue → HandValue → Type 0
IsEnded send before after = Follows before after × (after.permits ≡ before.permits + send.feed.pinned)

-- a work that has not begun: its feed and its sink
pub record HasBegun {D S : Type 0} (feed : FeedValue) (sink : S) (send : Sending D S) : Type 0 where
  pub feed_is : send.feed ≡ feed
  pub sink_is : send.sink ≡ sink
  pub feed_was : send.feed_was.value ≡ feed
  pub sink_was : send.sink_was.value ≡ sink

-- where a line's parts were lent, these are its parts again; all other lines are as they were
abbrev pub IsRestored : Root → Bool → Lines → List (Option FileValue) → Lines → Type 0
IsRestored (stored_root n) false lines parts now = (old : LineValue) → lines n ≡ Some old → Sets lines n (Some (with_parts old parts)) now
IsRestored (stored_root n) true lines parts now = (m : ℕ) → now m ≡ lines m
IsRestored (count_root n rows) last lines parts now = (m : ℕ) → now m ≡ lines m

-- the lines after an operand's root was read: all as they were, but that a stored one is gone after its last use
abbrev pub IsUsed : Lines → Root → Bool → Lines → Type 0
IsUsed lines (stored_root n) true now = Sets lines n None now
IsUsed lines (stored_root n) false now = (m : ℕ) → now m ≡ lines m
IsUsed lines (count_root n rows) last now = (m : ℕ) → now m ≡ lines m

abbrev pub pools_of : List HandValue → List PoolName
pools_of hands = map (λ (a : HandValue). a.pool) hands

-- the sink takes rows of these kinds, with this hand and with one permit fewer, which is there
pub record CanTake {S R : Type 0} (g : Ghosts S HandValue R) (kinds : Kinds) (s : S) (a : HandValue) : Type 0 where
  pub accepts : g.accepts s kinds
  pub is_open : g.is_shut s ≡ false
  pub serves : (b : HandValue) → b.pool ≡ a.pool → a.permits ≤ b.permits + 1 → g.serves s b
  pub permit : 0 < a.permits

-- what a worker did in a phase: its feed, its sink and its hand before, and the three when it had ended
pub record Turn (S : Type 0) : Type 0 where
  pub feed : FeedValue
  pub sink : S
  pub hand : HandValue
  pub left : FeedValue
  pub took : S
  pub met : HandValue

-- these are the turns of all workers, by rank
pub record AreTurns {S : Type 0} (turns : List (Turn S)) (feeds : List FeedValue) (sinks : List S) (hands : List HandValue) (took : List S) : Type 0 where
  pub feeds_are : map (λ (t : Turn S). t.feed) turns ≡ feeds
  pub sinks_are : map (λ (t : Turn S). t.sink) turns ≡ sinks
  pub hands_are : map (λ (t : Turn S). t.hand) turns ≡ hands
  pub took_is : map (λ (t : Turn S). t.took) turns ≡ took

-- the sink took all that was made of the feed's rows
pub record TookWhole {S R : Type 0} (g : Ghosts S HandValue R) (t : Turn S) : Type 0 where
  pub sent : IsSent g t.hand.pool t.feed t.sink t.left t.took
  pub none : t.left.left ≡ []

-- and with the hand at the end of the phase it holds what it held, and is served
pub record IsServed {S R : Type 0} (g : Ghosts S HandValue R) (t : Turn S) (now : HandValue) : Type 0 where
  pub whole : TookWhole g t
  pub serves : g.serves t.took now
  pub held : g.held t.took now ≡ g.held t.sink t.hand

-- each sink took all that was made of its feed's rows
pub record HasSent {S R : Type 0} (g : Ghosts S HandValue R) (feeds : List FeedValue) (sinks : List S) (hands : List HandValue) (took : List S) (now : List HandValue) : Type 0 where
  pub turns : List (Turn S)
  pub are : AreTurns turns feeds sinks hands took
  pub all : AllZip (IsServed g) turns now

-- the worker of this rank stopped with this fault, and those of lower ranks sent all
pub record HasStopped {S R : Type 0} (g : Ghosts S HandValue R) (feeds : List FeedValue) (sinks : List S) (hands : List HandValue) (took : List S) (now : List HandValue) (e : FeedErr R) : Type 0 where
  pub turns : List (Turn S)
  pub are : AreTurns turns feeds sinks hands took
  pub later : AllZip (λ (t : Turn S) (c : HandValue). Follows t.met c) turns now
  pub rank : ℕ
  pub turn : Turn S
  pub at : slice_get turns rank ≡ Some turn
  pub unsent : Unsent g turn.feed turn.sink turn.hand e turn.left turn.took turn.met
  pub lower : (k : ℕ) (t : Turn S) → k < rank → slice_get turns k ≡ Some t → TookWhole g t

-- what a work has gone through in a phase, that it is done, and that it faulted
abbrev pub Gone : {D S R : Type 0} → Ghosts S HandValue R → Sending D S → HandValue → Sending D S → HandValue → Type 0
Gone g w a v b = HasGone g w.feed_was.value w.sink_was.value w.feed w.sink a v.feed_was.value v.sink_was.value v.feed v.sink b

abbrev pub Done : {D S R : Type 0} → Ghosts S HandValue R → Sending D S → HandValue → Type 0
Done g v b = IsAllSent g v.feed_was.value v.sink_was.value v.feed v.sink b

abbrev pub Faulted : {D S R : Type 0} → Ghosts S HandValue R → HandValue → FeedErr R → Sending D S → HandValue → Type 0
Faulted g a e v b = Unsent g v.feed_was.value v.sink_was.value a e v.feed v.sink b

-- what a phase came to, where want of memory to begin it is one of its faults
abbrev pub flat_answer : {R : Type 0} → Result (Unit {0}) (Stopped (FeedErr R)) → Result (Unit {0}) (FeedErr R)
flat_answer (Ok done) = Ok done
flat_answer (Err stopped.NoMemory) = Err NoMemory
flat_answer (Err (stopped.Fault e)) = Err e

-- What holds at each turn of a phase that receives.
use Rattle.std.proofs.Common.{◌≡◌, ℕ, zero, suc, ◌≤◌, List, [], ◌∷◌, map, length, Some, refl, sym, subst, arith, length-append}
use Rattle.std.specs.Prelude.{All, slice_get}
use Rattle.std.specs.List.{AllZip}
use Rattle.std.proofs.lemmas.List.Elements.{All-nil, All-cons}
use Rattle.row_defs.specs.declared.kind.Kind.{Kind}
use Rattle.row_defs.specs.Rows.{Row}
use Rattle.block_pool.specs.Handles.{HandValue, HasHit, Follows}
use Rattle.file_sink.specs.Sinks.{SinkValue}
use Rattle.multiplexer.specs.declared.inbox.Inbox.{Inbox}
use Rattle.scatter.specs.Told.{Tells, SomeHit}
use Rattle.scatter.proofs.Arriving.{at_rank, map_at}
use Rattle.sink_files.specs.Ending.{IsFreshSink}
use Rattle.arrivals.specs.Boxes.{Holds, joined}
use Rattle.arrivals.specs.Phases.{Turn, IsEndOf}
use Rattle.arrival_files.specs.Receiving.{HoldAll, rows_received}

abbrev pub box_in : Turn SinkValue → Inbox
box_in t = t.box

abbrev pub hand_in : Turn SinkValue → HandValue
hand_in t = t.hand

abbrev pub sink_before : Turn SinkValue → SinkValue
sink_before t = t.sink

abbrev pub sink_after : Turn SinkValue → SinkValue
sink_after t = t.took

-- a turn whose sink took no row before
abbrev pub IsFreshTurn : List Kind → Turn SinkValue → Type 0
IsFreshTurn kinds t = IsFreshSink kinds t.sink t.hand

fresh_turns : (kinds : List Kind) (turns : List (Turn SinkValue)) → AllZip (IsFreshSink kinds) (map sink_before turns) (map hand_in turns) → All (IsFreshTurn kinds) turns
fresh_turns kinds [] h = All-nil (IsFreshTurn kinds)
fresh_turns kinds (t ∷ turns) h = All-cons (IsFreshTurn kinds) t turns h.0 (fresh_turns kinds turns h.1)

pub fresh_in : (kinds : List Kind) (turns : List (Turn SinkValue)) (ss : List SinkValue) (hs : List HandValue) → map sink_before turns ≡ ss → map hand_in turns ≡ hs
    → AllZip (IsFreshSink kinds) ss hs → All (IsFreshTurn kinds) turns
fresh_in kinds turns ss hs are_sinks are_hands h =
    fresh_turns kinds turns (subst (λ hs. AllZip (IsFreshSink kinds) (map sink_before turns) hs) (sym are_hands) (subst (λ ss. AllZip (IsFreshSink kinds) ss hs) (sym are_sinks) h))

-- the disk of the hand of a turn tells
pub tells_at : (turns : List (Turn SinkValue)) (hands : List HandValue) (rank : ℕ) (t : Turn SinkValue) → slice_get turns rank ≡ Some t → map hand_in turns ≡ hands → All Tells hands → Tells t.hand
tells_at turns hands rank t at are tells = at_rank Tells (map hand_in turns) rank t.hand (map_at hand_in turns rank t at) (subst (λ hs. All Tells hs) (sym are) tells)

-- what the box of a turn holds, of what all boxes hold
pub held_at : (kinds : List Kind) (turns : List (Turn SinkValue)) (all : List (List (List Row))) (rank : ℕ) (t : Turn SinkValue) → slice_get turns rank ≡ Some t → HoldAll kinds (map box_in turns) all
    → (lists : List (List Row)) × (slice_get all rank ≡ Some lists) × Holds kinds t.box.packets.items lists
held_at kinds [] all rank t at hold = cc
held_at kinds (u ∷ turns) [] rank t at hold = absurd hold
held_at kinds (u ∷ turns) (lists ∷ all) zero t at hold =
    let same : u ≡ t = cc in
    (lists, refl, subst (λ (v : Turn SinkValue). Holds kinds v.box.packets.items lists) same hold.0)
held_at kinds (u ∷ turns) (lists ∷ all) (suc rank) t at hold = held_at kinds turns all rank t at hold.1

-- no fewer rows are received in all than by one worker
pub received_at : (all : List (List (List Row))) (rank : ℕ) (lists : List (List Row)) → slice_get all rank ≡ Some lists → length (joined lists) ≤ length (rows_received all)
received_at [] rank lists at = cc
received_at (ls ∷ all) zero lists at =
    let same : ls ≡ lists = cc in
    let both = length-append (joined ls) (rows_received all) in
    subst (λ (l : List (List Row)). length (joined l) ≤ length (rows_received (ls ∷ all))) same (omega arith)
received_at (ls ∷ all) (suc rank) lists at =
    let both = length-append (joined ls) (rows_received all) in
    let rest = received_at all rank lists at in
    omega arith

met_at : (turns : List (Turn SinkValue)) (now : List HandValue) (rank : ℕ) (t : Turn SinkValue) → slice_get turns rank ≡ Some t → AllZip (λ (t : Turn SinkValue) (c : HandValue). IsEndOf t.left t.met c) turns now
    → (c : HandValue) × (slice_get now rank ≡ Some c) × Follows t.met c
met_at [] now rank t at ended = cc
met_at (u ∷ turns) [] rank t at ended = absurd ended
met_at (u ∷ turns) (c ∷ now) zero t at ended = let same : u ≡ t = cc in (c, refl, subst (λ (v : Turn SinkValue). Follows v.met c) same ended.0.follows)
met_at (u ∷ turns) (c ∷ now) (suc rank) t at ended = met_at turns now rank t at ended.1

-- a hit of a worker in its turn is a hit of its hand
pub some_hit : (turns : List (Turn SinkValue)) (hands now : List HandValue) (rank : ℕ) (t : Turn SinkValue) (count : ℕ) → slice_get turns rank ≡ Some t → map hand_in turns ≡ hands
    → AllZip (λ (t : Turn SinkValue) (c : HandValue). IsEndOf t.left t.met c) turns now → HasHit t.hand.notes t.met.notes count → SomeHit hands now count
some_hit turns hands now rank t count at are ended hit =
    let end = met_at turns now rank t at ended in
    record {
      rank = rank;
      before = t.hand;
      met = t.met;
      after = end.0;
      was = subst (λ hs. slice_get hs rank ≡ Some t.hand) are (map_at hand_in turns rank t at);
      is = end.1;
      hit = hit;
      later = end.2;
    }

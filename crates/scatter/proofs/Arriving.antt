-- What arrives over the turns of all workers, and what holds at one of them.
use Rattle.std.proofs.Common.{◌≡◌, ℕ, zero, suc, ◌≤◌, List, [], ◌∷◌, ◌++◌, map, length, Some, refl, sym, ap, subst, ◌∙◌, arith, length-append, append-nil}
use Rattle.std.specs.Prelude.{All, slice_get}
use Rattle.std.specs.List.{AllZip, flat_map}
use Rattle.std.proofs.lemmas.List.Elements.{All-nil, All-cons, All-head, All-tail}
use Rattle.std.proofs.lemmas.List.Concat.{flat_map-append}
use Rattle.row_defs.specs.Rows.{Row}
use Rattle.row_defs.specs.LocalOps.{LocalOp, rows_through}
use Rattle.row_defs.specs.Operands.{Root, stored_root, count_root}
use Rattle.block_pool.specs.Handles.{HandValue, HasHit, Follows}
use Rattle.lop_chain.specs.Ops.{rows_from}
use Rattle.lop_chain.specs.declared.sink.RowSink.{Ghosts}
use Rattle.collective.specs.Shares.{shares_of}
use Rattle.scatter.specs.Feeds.{FeedValue, number_feed, number_rows}
use Rattle.scatter.specs.Lines.{Lines, root_rows, root_feeds}
use Rattle.scatter.specs.Steps.{IsTold}
use Rattle.scatter.specs.Phases.{Turn, TookWhole, IsServed}
use Rattle.scatter.proofs.Rooted.{GoesThrough, root_ops}
use Rattle.scatter.specs.Told.{Tells, AreTold, SomeHit, arriving}

abbrev left : FeedValue → List Row
left f = f.left

abbrev PinsNone : FeedValue → Type 0
PinsNone f = f.pins ≡ 0

numbers_pins : (ops : List LocalOp) (shares : List (List Row)) → All PinsNone (map (number_feed ops) shares)
numbers_pins ops [] = All-nil PinsNone
numbers_pins ops (share ∷ shares) = All-cons PinsNone (number_feed ops share) (map (number_feed ops) shares) refl (numbers_pins ops shares)

module _ {S : Type 0} where
  abbrev pub feed_in : Turn S → FeedValue
  feed_in t = t.feed

  abbrev pub hand_in : Turn S → HandValue
  hand_in t = t.hand

  abbrev pub sink_before : Turn S → S
  sink_before t = t.sink

  abbrev pub sink_after : Turn S → S
  sink_after t = t.took

  abbrev pub IsToldTurn : Turn S → Type 0
  IsToldTurn t = IsTold t.hand.pool t.feed

  -- what holds of each element of a list that is read off from another
  pub all_back : {X : Type 0} (f : Turn S → X) (P : X → Type 0) (turns : List (Turn S)) → All P (map f turns) → All (λ t. P (f t)) turns
  all_back f P [] all = All-nil (λ t. P (f t))
  all_back f P (t ∷ turns) all = All-cons (λ t. P (f t)) t turns (All-head P (f t) (map f turns) all) (all_back f P turns (All-tail P (f t) (map f turns) all))

  all_weak : (P Q : Turn S → Type 0) (turns : List (Turn S)) → ((t : Turn S) → P t → Q t) → All P turns → All Q turns
  all_weak P Q [] f all = All-nil Q
  all_weak P Q (t ∷ turns) f all = All-cons Q t turns (f t (All-head P t turns all)) (all_weak P Q turns f (All-tail P t turns all))

  -- the rows are known
  pub told_turns : (lines : Lines) (workers : ℕ) (root : Root) (last : _) (ops : List LocalOp) (hands : List HandValue) (turns : List (Turn S))
      → map feed_in turns ≡ root_feeds lines workers root last ops → map hand_in turns ≡ hands → AreTold root hands → All IsToldTurn turns
  told_turns lines workers (stored_root n) last ops hands turns feeds are told =
      let all : All Tells (map hand_in turns) = subst (λ hs. All Tells hs) (sym are) told in
      all_weak (λ t. Tells (hand_in t)) IsToldTurn turns (λ t tells pins. tells) (all_back hand_in Tells turns all)
  told_turns lines workers (count_root n rows) last ops hands turns feeds are told =
      let all : All PinsNone (map feed_in turns) = subst (λ fs. All PinsNone fs) (sym feeds) (numbers_pins ops (shares_of (number_rows 0 rows) workers workers)) in
      all_weak (λ t. PinsNone (feed_in t)) IsToldTurn turns (λ t none pins. absurd (omega (arith, none, pins))) (all_back feed_in PinsNone turns all)

  -- the rows that arrive in all
  abbrev pub arrived : List (Turn S) → List Row
  arrived turns = flat_map (λ (t : Turn S). rows_from t.feed.ops t.feed.left) turns

  arrived_through : (ops : List LocalOp) (turns : List (Turn S)) → All (λ (t : Turn S). GoesThrough ops t.feed) turns → arrived turns ≡ rows_from ops (flat_map left (map feed_in turns))
  arrived_through ops [] all = refl
  arrived_through ops (t ∷ turns) all =
      let P : Turn S → Type 0 = λ t. GoesThrough ops t.feed in
      ap (λ o. rows_from o t.feed.left ++ arrived turns) (All-head P t turns all)
      ∙ ap (λ rows. rows_from ops t.feed.left ++ rows) (arrived_through ops turns (All-tail P t turns all))
      ∙ sym (flat_map-append (rows_through ops) t.feed.left (flat_map left (map feed_in turns)))

  pub arrived_is : (lines : Lines) (workers : ℕ) (root : Root) (last : _) (ops : List LocalOp) (turns : List (Turn S)) → map feed_in turns ≡ root_feeds lines workers root last ops
      → flat_map left (root_feeds lines workers root last ops) ≡ root_rows lines root → arrived turns ≡ arriving lines root ops
  arrived_is lines workers root last ops turns feeds joined =
      let all : All (GoesThrough ops) (map feed_in turns) = subst (λ fs. All (GoesThrough ops) fs) (sym feeds) (root_ops lines workers root last ops) in
      arrived_through ops turns (all_back feed_in (GoesThrough ops) turns all) ∙ ap (λ fs. rows_from ops (flat_map left fs)) feeds ∙ ap (rows_from ops) joined

  -- no fewer arrive in all than at one worker
  pub arrived_at : (turns : List (Turn S)) (rank : ℕ) (t : Turn S) → slice_get turns rank ≡ Some t → length (rows_from t.feed.ops t.feed.left) ≤ length (arrived turns)
  arrived_at [] rank t at = cc
  arrived_at (u ∷ turns) zero t at =
      let same : u ≡ t = cc in
      let both = length-append (rows_from u.feed.ops u.feed.left) (arrived turns) in
      subst (λ (v : Turn S). length (rows_from v.feed.ops v.feed.left) ≤ length (arrived (u ∷ turns))) same (omega arith)
  arrived_at (u ∷ turns) (suc rank) t at =
      let both = length-append (rows_from u.feed.ops u.feed.left) (arrived turns) in
      let rest = arrived_at turns rank t at in
      omega arith

  module _ {R : Type 0} (g : Ghosts S HandValue R) where
    -- the rows that a worker whose feed is told pushed are all that it had
    pub whole_rows : (t : Turn S) → (w : TookWhole g t) → IsToldTurn t → t.feed.left ≡ w.sent.rows
    whole_rows t w told = w.sent.gives.told told ∙ ap (λ rows. w.sent.rows ++ rows) w.none ∙ append-nil w.sent.rows

    permits_each : ((s t : S) (a b : HandValue) → g.held t b ≡ g.held s a → b.permits ≡ a.permits) → (turns : List (Turn S)) (now : List HandValue)
        → AllZip (IsServed g) turns now → AllZip (λ (a b : HandValue). b.permits ≡ a.permits) (map hand_in turns) now
    permits_each f [] [] all = tt
    permits_each f [] (b ∷ now) all = absurd all
    permits_each f (t ∷ turns) [] all = absurd all
    permits_each f (t ∷ turns) (b ∷ now) all = (f t.sink t.took t.hand b all.0.held, permits_each f turns now all.1)

    pub permits_same : ((s t : S) (a b : HandValue) → g.held t b ≡ g.held s a → b.permits ≡ a.permits) → (turns : List (Turn S)) (hands now : List HandValue) → map hand_in turns ≡ hands
        → AllZip (IsServed g) turns now → AllZip (λ (a b : HandValue). b.permits ≡ a.permits) hands now
    permits_same f turns hands now are all = subst (λ hs. AllZip (λ (a b : HandValue). b.permits ≡ a.permits) hs now) are (permits_each f turns now all)

-- what holds at a rank
module _ {X : Type 0} where
  pub at_rank : (P : X → Type 0) (xs : List X) (rank : ℕ) (x : X) → slice_get xs rank ≡ Some x → All P xs → P x
  at_rank P [] rank x at all = cc
  at_rank P (y ∷ xs) zero x at all = let same : y ≡ x = cc in subst P same (All-head P y xs all)
  at_rank P (y ∷ xs) (suc rank) x at all = at_rank P xs rank x at (All-tail P y xs all)

  pub map_at : {Y : Type 0} (f : X → Y) (xs : List X) (rank : ℕ) (x : X) → slice_get xs rank ≡ Some x → slice_get (map f xs) rank ≡ Some (f x)
  map_at f [] rank x at = cc
  map_at f (y ∷ xs) zero x at = let same : y ≡ x = cc in ap (λ z. Some (f z)) same
  map_at f (y ∷ xs) (suc rank) x at = map_at f xs rank x at

pub hit_at : {S : Type 0} (turns : List (Turn S)) (now : List HandValue) (rank : ℕ) (t : Turn S) → slice_get turns rank ≡ Some t → AllZip (λ (t : Turn S) (c : HandValue). Follows t.met c) turns now
    → (c : HandValue) × (slice_get now rank ≡ Some c) × Follows t.met c
hit_at [] now rank t at later = cc
hit_at (u ∷ turns) [] rank t at later = absurd later
hit_at (u ∷ turns) (c ∷ now) zero t at later = let same : u ≡ t = cc in (c, refl, subst (λ (v : Turn _). Follows v.met c) same later.0)
hit_at (u ∷ turns) (c ∷ now) (suc rank) t at later = hit_at turns now rank t at later.1

-- a hit of a worker in its turn is a hit of its hand
pub some_hit : {S : Type 0} (turns : List (Turn S)) (hands now : List HandValue) (rank : ℕ) (t : Turn S) (count : ℕ) → slice_get turns rank ≡ Some t → map hand_in turns ≡ hands
    → AllZip (λ (t : Turn S) (c : HandValue). Follows t.met c) turns now → HasHit t.hand.notes t.met.notes count → SomeHit hands now count
some_hit turns hands now rank t count at are later hit =
    let end = hit_at turns now rank t at later in
    record {
      rank = rank;
      before = t.hand;
      met = t.met;
      after = end.0;
      was = subst (λ hs. slice_get hs rank ≡ Some t.hand) are (map_at hand_in turns rank t at);
      is = end.1;
      hit = hit;
      later = end.2;
    }

-- The turns of a phase, of the works before and after it.
use Rattle.std.proofs.Common.{◌≡◌, ℕ, zero, suc, ◌+◌, ◌<◌, cond, List, [], ◌∷◌, ◌++◌, map, length, Some, refl, sym, ap, subst, ◌∙◌, arith}
use Rattle.std.specs.Prelude.{All, slice_get}
use Rattle.std.specs.List.{AllZip}
use Rattle.row_defs.specs.declared.kind.Kind.{Kind}
use Rattle.row_defs.specs.Rows.{Row}
use Rattle.block_pool.specs.Handles.{PoolName, HandValue, Follows}
use Rattle.block_pool.specs.Follows.{follows_trans}
use Rattle.lop_chain.specs.Rows.{IsRowOf}
use Rattle.lop_chain.specs.declared.sink.RowSink.{Ghosts}
use Rattle.lent_step.specs.Lending.{AllRan, IsFaultAt}
use Rattle.dia_file.specs.Encoding.{AreOf}
use Rattle.multiplexer.specs.declared.inbox.Inbox.{Inbox}
use Rattle.mix_stream.specs.Reading.{Reading, pins}
use Rattle.scatter.specs.declared.feed_err.FeedErr.{FeedErr}
use Rattle.scatter.specs.declared.feed_err.FeedErr.TheVariants.{Sink, Disk, Damaged, NoMemory}
use Rattle.scatter.specs.Carrying.{AreForHand}
use Rattle.scatter.specs.Fitting.{RestsOnHands}
use Rattle.scatter.specs.Phases.{AllThree, CanTake}
use Rattle.scatter.specs.Sends.{HasLaws}
use Rattle.arrivals.specs.declared.receiving.Receiving.{Receiving}
use Rattle.arrivals.specs.Boxes.{Holds, HasLeft}
use Rattle.arrivals.specs.Steps.{CanServe}
use Rattle.arrivals.specs.Receives.{GivesRows, IsReceived, Unreceived, TookAll, CanReceive, CanGoOn}
use Rattle.arrivals.specs.Phases.{IsReaderOf, HasStarted, HasBegun, IsOwn, IsEndOf, IsEnded, sink_in, Turn, AreTurns, TookBox, IsServed, HasReceived, HasStopped, Gone, Done, Faulted}
use Rattle.arrivals.proofs.ReceivedRows.{received_start}

-- what a box holds is left to its reader
left_of_box : (kinds : List Kind) (x : Inbox) (r : Reading) → IsReaderOf kinds x r → (lists : List (List Row)) → Holds kinds x.packets.items lists → HasLeft r lists
left_of_box kinds x r of lists holds = record {
  are = subst (λ (ks : List Kind). All (AreOf ks) lists) (sym of.kinds_are) holds.are;
  bytes = λ k. of.bytes k ∙ holds.bytes k;
}

-- the same rows, of what else is held
module _ (ks kinds : List Kind) (before held : List (List Row) → Type 0) (same : ks ≡ kinds) (has : (lists : List (List Row)) → held lists → before lists) where
  gives_held : (pool : PoolName) (rows : List Row) (q : Reading) → GivesRows pool ks before rows q → GivesRows pool kinds held rows q
  gives_held pool rows q p = record {
    are = subst (λ (l : List Kind). All (IsRowOf l) rows) same p.are;
    told = λ tells lists holds. p.told tells lists (has lists holds);
  }

  module _ {S R : Type 0} (g : Ghosts S HandValue R) where
    received_held : (pool : PoolName) (s t : S) (q : Reading) → IsReceived g pool ks before s q t → IsReceived g pool kinds held s q t
    received_held pool s t q p = record {
      rows = p.rows;
      gives = gives_held pool p.rows q p.gives;
      took = p.took;
      accepts = p.accepts;
      accepted = p.accepted;
      is_open = p.is_open;
    }

    all_held : (pool : PoolName) (s t : S) → TookAll g pool ks before s t → TookAll g pool kinds held s t
    all_held pool s t p = record {
      rows = p.rows;
      all = record {
        are = subst (λ (l : List Kind). All (IsRowOf l) p.rows) same p.all.are;
        told = λ tells lists holds. p.all.told tells lists (has lists holds);
      };
      took = p.took;
      accepts = p.accepts;
      accepted = p.accepted;
      is_open = p.is_open;
    }

    unreceived_held : (s t : S) (a b : HandValue) (q : Reading) (e : FeedErr R) → Unreceived g ks before s a e q t b → Unreceived g kinds held s a e q t b
    unreceived_held s t a b q (Sink e) p = record {
      rows = p.rows;
      next = p.next;
      at = p.at;
      gives = gives_held a.pool (p.rows ++ p.next ∷ []) q p.gives;
      took = p.took;
      refused = p.refused;
      shut = p.shut;
    }
    unreceived_held s t a b q (Disk count) p = (received_held a.pool s t q p.0, p.1)
    unreceived_held s t a b q Damaged p = (received_held a.pool s t q p.0, λ tells lists holds. p.1 tells lists (has lists holds))
    unreceived_held s t a b q NoMemory p = received_held a.pool s t q p

module _ {D S : Type 0} where
  abbrev pub turn_of : Inbox → Receiving D S → HandValue → Receiving D S → HandValue → Turn S
  turn_of x w a v b = record { box = x; sink = w.sink; hand = a; left = v.reader; took = v.sink; met = b }

  abbrev pub turns_of : List Inbox → List (Receiving D S) → List HandValue → List (Receiving D S) → List HandValue → List (Turn S)
  turns_of (x ∷ xs) (w ∷ ws) (a ∷ hs) (v ∷ vs) (b ∷ bs) = turn_of x w a v b ∷ turns_of xs ws hs vs bs
  turns_of _ _ _ _ _ = []

  -- R holds at each place of the boxes, of the works and hands before, and of those after
  abbrev pub AllFive : (Inbox → Receiving D S → HandValue → Receiving D S → HandValue → Type 0) → List Inbox → List (Receiving D S) → List HandValue → List (Receiving D S) → List HandValue → Type 0
  AllFive R (x ∷ xs) (w ∷ ws) (a ∷ hs) (v ∷ vs) (b ∷ bs) = R x w a v b × AllFive R xs ws hs vs bs
  AllFive R [] [] [] [] [] = Unit {0}
  AllFive R _ _ _ _ _ = ⊥

  -- what began
  begun_one : (kinds : List Kind) (x : Inbox) (r : Reading) (s : S) (w : Receiving D S) → IsReaderOf kinds x r → HasStarted r s w → HasBegun kinds x s w
  begun_one kinds x r s w of p = record {
    of_box = subst (IsReaderOf kinds x) (sym p.reader_is) of;
    started = record { reader_is = refl; sink_is = p.sink_is; pinned_is = p.pinned_is; reader_was = p.reader_was ∙ sym p.reader_is; sink_was = p.sink_was };
  }

  pub begun : (kinds : List Kind) (xs : List Inbox) (rs : List Reading) (ss : List S) (ws : List (Receiving D S)) → AllZip (IsReaderOf kinds) xs rs → AllThree HasStarted rs ss ws
      → AllThree (HasBegun kinds) xs ss ws
  begun kinds [] [] [] [] of h = tt
  begun kinds (x ∷ xs) (r ∷ rs) (s ∷ ss) (w ∷ ws) of h = (begun_one kinds x r s w of.0 h.0, begun kinds xs rs ss ws of.1 h.1)
  begun kinds [] [] _ _ of h = absurd h
  begun kinds (x ∷ xs) (r ∷ rs) _ _ of h = absurd h
  begun kinds _ _ _ _ of h = absurd of

  pub begun_sinks : (kinds : List Kind) (xs : List Inbox) (ss : List S) (ws : List (Receiving D S)) → AllThree (HasBegun kinds) xs ss ws → map sink_in ws ≡ ss
  begun_sinks kinds [] [] [] h = refl
  begun_sinks kinds (x ∷ xs) (s ∷ ss) (w ∷ ws) h = let rest = begun_sinks kinds xs ss ws h.1 in let here = h.0.started.sink_is in cc
  begun_sinks kinds _ _ _ h = absurd h

  own_one : (kinds : List Kind) (x : Inbox) (s : S) (w : Receiving D S) (a : HandValue) → HasBegun kinds x s w → AreForHand a x → IsOwn w a
  own_one kinds x s w a h own = h.of_box.own a.pool own

  pub begun_own : (kinds : List Kind) (xs : List Inbox) (ss : List S) (ws : List (Receiving D S)) (hs : List HandValue) → AllThree (HasBegun kinds) xs ss ws → AllZip AreForHand hs xs → AllZip IsOwn ws hs
  begun_own kinds [] [] [] [] h own = tt
  begun_own kinds [] [] [] (a ∷ hs) h own = absurd own
  begun_own kinds (x ∷ xs) (s ∷ ss) (w ∷ ws) [] h own = absurd own
  begun_own kinds (x ∷ xs) (s ∷ ss) (w ∷ ws) (a ∷ hs) h own = (own_one kinds x s w a h.0 own.0, begun_own kinds xs ss ws hs h.1 own.1)
  begun_own kinds _ _ _ hs h own = absurd h

  module _ (R : Inbox → Receiving D S → HandValue → Receiving D S → HandValue → Type 0) where
    turn_boxes : (xs : List Inbox) (ws : List (Receiving D S)) (hs : List HandValue) (vs : List (Receiving D S)) (bs : List HandValue) → AllFive R xs ws hs vs bs
        → map (λ (t : Turn S). t.box) (turns_of xs ws hs vs bs) ≡ xs
    turn_boxes [] [] [] [] [] h = refl
    turn_boxes (x ∷ xs) (w ∷ ws) (a ∷ hs) (v ∷ vs) (b ∷ bs) h = ap (λ l. x ∷ l) (turn_boxes xs ws hs vs bs h.1)
    turn_boxes _ _ _ _ _ h = absurd h

    turn_sinks : (xs : List Inbox) (ws : List (Receiving D S)) (hs : List HandValue) (vs : List (Receiving D S)) (bs : List HandValue) → AllFive R xs ws hs vs bs
        → map (λ (t : Turn S). t.sink) (turns_of xs ws hs vs bs) ≡ map sink_in ws
    turn_sinks [] [] [] [] [] h = refl
    turn_sinks (x ∷ xs) (w ∷ ws) (a ∷ hs) (v ∷ vs) (b ∷ bs) h = ap (λ l. w.sink ∷ l) (turn_sinks xs ws hs vs bs h.1)
    turn_sinks _ _ _ _ _ h = absurd h

    turn_hands : (xs : List Inbox) (ws : List (Receiving D S)) (hs : List HandValue) (vs : List (Receiving D S)) (bs : List HandValue) → AllFive R xs ws hs vs bs
        → map (λ (t : Turn S). t.hand) (turns_of xs ws hs vs bs) ≡ hs
    turn_hands [] [] [] [] [] h = refl
    turn_hands (x ∷ xs) (w ∷ ws) (a ∷ hs) (v ∷ vs) (b ∷ bs) h = ap (λ l. a ∷ l) (turn_hands xs ws hs vs bs h.1)
    turn_hands _ _ _ _ _ h = absurd h

    turn_took : (xs : List Inbox) (ws : List (Receiving D S)) (hs : List HandValue) (vs : List (Receiving D S)) (bs : List HandValue) → AllFive R xs ws hs vs bs
        → map (λ (t : Turn S). t.took) (turns_of xs ws hs vs bs) ≡ map sink_in vs
    turn_took [] [] [] [] [] h = refl
    turn_took (x ∷ xs) (w ∷ ws) (a ∷ hs) (v ∷ vs) (b ∷ bs) h = ap (λ l. v.sink ∷ l) (turn_took xs ws hs vs bs h.1)
    turn_took _ _ _ _ _ h = absurd h

    pub are_turns : (ss : List S) (xs : List Inbox) (ws : List (Receiving D S)) (hs : List HandValue) (vs : List (Receiving D S)) (bs : List HandValue)
        → map sink_in ws ≡ ss → AllFive R xs ws hs vs bs → AreTurns (turns_of xs ws hs vs bs) xs ss hs (map sink_in vs)
    are_turns ss xs ws hs vs bs sinks h = record {
      boxes_are = turn_boxes xs ws hs vs bs h;
      sinks_are = turn_sinks xs ws hs vs bs h ∙ sinks;
      hands_are = turn_hands xs ws hs vs bs h;
      took_is = turn_took xs ws hs vs bs h;
    }

    -- what holds of each turn and the hand at the end
    pub each_turn : (P : Turn S → HandValue → Type 0) (E : Receiving D S → HandValue → HandValue → Type 0)
        → (xs : List Inbox) (ws : List (Receiving D S)) (hs : List HandValue) (vs : List (Receiving D S)) (bs cs : List HandValue)
        → ((x : Inbox) (w : Receiving D S) (a : HandValue) (v : Receiving D S) (b c : HandValue) → R x w a v b → E v b c → P (turn_of x w a v b) c)
        → AllFive R xs ws hs vs bs → AllThree E vs bs cs → AllZip P (turns_of xs ws hs vs bs) cs
    each_turn P E [] [] [] [] [] [] f h e = tt
    each_turn P E [] [] [] [] [] (c ∷ cs) f h e = absurd e
    each_turn P E (x ∷ xs) (w ∷ ws) (a ∷ hs) (v ∷ vs) (b ∷ bs) [] f h e = absurd e
    each_turn P E (x ∷ xs) (w ∷ ws) (a ∷ hs) (v ∷ vs) (b ∷ bs) (c ∷ cs) f h e = (f x w a v b c h.0 e.0, each_turn P E xs ws hs vs bs cs f h.1 e.1)
    each_turn P E _ _ _ _ _ _ f h e = absurd h

    -- the turn of a rank ..
    pub turn_at : (xs : List Inbox) (ws : List (Receiving D S)) (hs : List HandValue) (vs : List (Receiving D S)) (bs : List HandValue) (k : ℕ) (a : HandValue) (v : Receiving D S) (b : HandValue)
        → AllFive R xs ws hs vs bs → slice_get hs k ≡ Some a → slice_get vs k ≡ Some v → slice_get bs k ≡ Some b
        → (x : Inbox) × (w : Receiving D S) × R x w a v b × (slice_get (turns_of xs ws hs vs bs) k ≡ Some (turn_of x w a v b))
    turn_at [] [] [] [] [] k a v b h p q r = cc
    turn_at (x ∷ xs) (w ∷ ws) (y ∷ hs) (z ∷ vs) (u ∷ bs) zero a v b h p q r =
        let i : y ≡ a = cc in
        let j : z ≡ v = cc in
        let l : u ≡ b = cc in
        (x, w, subst (λ o. R x w a v o) l (subst (λ o. R x w a o u) j (subst (λ o. R x w o z u) i h.0)), cc)
    turn_at (x ∷ xs) (w ∷ ws) (y ∷ hs) (z ∷ vs) (u ∷ bs) (suc k) a v b h p q r = turn_at xs ws hs vs bs k a v b h.1 p q r
    turn_at _ _ _ _ _ k a v b h p q r = absurd h

    -- .. and what holds of it
    pub at_turn : (P : Turn S → Type 0) (xs : List Inbox) (ws : List (Receiving D S)) (hs : List HandValue) (vs : List (Receiving D S)) (bs : List HandValue) (k : ℕ) (t : Turn S)
        → AllFive R xs ws hs vs bs → slice_get (turns_of xs ws hs vs bs) k ≡ Some t
        → ((x : Inbox) (w : Receiving D S) (a : HandValue) (v : Receiving D S) (b : HandValue) → R x w a v b → slice_get vs k ≡ Some v → slice_get bs k ≡ Some b → P (turn_of x w a v b)) → P t
    at_turn P [] [] [] [] [] k t h p f = cc
    at_turn P (x ∷ xs) (w ∷ ws) (a ∷ hs) (v ∷ vs) (b ∷ bs) zero t h p f =
        let is : turn_of x w a v b ≡ t = cc in
        subst P is (f x w a v b h.0 refl refl)
    at_turn P (x ∷ xs) (w ∷ ws) (a ∷ hs) (v ∷ vs) (b ∷ bs) (suc k) t h p f = at_turn P xs ws hs vs bs k t h.1 p f
    at_turn P _ _ _ _ _ k t h p f = absurd h

  module _ {F : Type 0} (g : Ghosts S HandValue F) (kinds : List Kind) where
    abbrev Ran : Inbox → Receiving D S → HandValue → Receiving D S → HandValue → Type 0
    Ran x w a v b = HasBegun kinds x w.sink w × Gone g w a v b

    begun_self : (x : Inbox) (s : S) (w : Receiving D S) → HasBegun kinds x s w → HasBegun kinds x w.sink w
    begun_self x s w h = subst (λ u. HasBegun kinds x u w) (sym h.started.sink_is) h

    ran_five : (xs : List Inbox) (ss : List S) (ws : List (Receiving D S)) (hs : List HandValue) (vs : List (Receiving D S)) (bs : List HandValue)
        → AllThree (HasBegun kinds) xs ss ws → AllRan (Gone g) ws hs vs bs → AllFive Ran xs ws hs vs bs
    ran_five [] [] [] [] [] [] h ran = tt
    ran_five (x ∷ xs) (s ∷ ss) (w ∷ ws) (a ∷ hs) (v ∷ vs) (b ∷ bs) h ran = ((begun_self x s w h.0, ran.0), ran_five xs ss ws hs vs bs h.1 ran.1)
    ran_five [] [] [] _ _ _ h ran = absurd ran
    ran_five (x ∷ xs) (s ∷ ss) (w ∷ ws) _ _ _ h ran = absurd ran
    ran_five _ _ _ _ _ _ h ran = absurd h

    reader_of : (x : Inbox) (w : Receiving D S) (a : HandValue) (v : Receiving D S) (b : HandValue) → Ran x w a v b → v.reader_was.value ≡ w.reader
    reader_of x w a v b ran = ran.1.reader_was ∙ ran.0.started.reader_was

    sink_of : (x : Inbox) (w : Receiving D S) (a : HandValue) (v : Receiving D S) (b : HandValue) → Ran x w a v b → v.sink_was.value ≡ w.sink
    sink_of x w a v b ran = ran.1.sink_was ∙ ran.0.started.sink_was

    -- a work that is done took all rows of its box
    whole_turn : (x : Inbox) (w : Receiving D S) (a : HandValue) (v : Receiving D S) (b : HandValue) → Ran x w a v b → Done g v b → TookBox g kinds (turn_of x w a v b)
    whole_turn x w a v b ran done =
        let of = ran.0.of_box in
        let all : TookAll g a.pool w.reader.kinds (HasLeft w.reader) w.sink v.sink =
        subst (λ s. TookAll g a.pool w.reader.kinds (HasLeft w.reader) s v.sink) (sink_of x w a v b ran)
        (subst (λ (r : Reading). TookAll g a.pool r.kinds (HasLeft r) v.sink_was.value v.sink) (reader_of x w a v b ran)
        (subst (λ pool. TookAll g pool v.reader_was.value.kinds (HasLeft v.reader_was.value) v.sink_was.value v.sink) ran.1.goes.follows.pool done.all)) in
        all_held w.reader.kinds kinds (HasLeft w.reader) (Holds kinds x.packets.items) of.kinds_are (left_of_box kinds x w.reader of) g a.pool w.sink v.sink all

    fault_turn : (x : Inbox) (w : Receiving D S) (a : HandValue) (v : Receiving D S) (b : HandValue) (e : FeedErr F) → Ran x w a v b → Faulted g a e v b
        → Unreceived g kinds (Holds kinds x.packets.items) w.sink a e v.reader v.sink b
    fault_turn x w a v b e ran fault =
        let of = ran.0.of_box in
        let here : Unreceived g w.reader.kinds (HasLeft w.reader) w.sink a e v.reader v.sink b =
        subst (λ s. Unreceived g w.reader.kinds (HasLeft w.reader) s a e v.reader v.sink b) (sink_of x w a v b ran)
        (subst (λ (r : Reading). Unreceived g r.kinds (HasLeft r) v.sink_was.value a e v.reader v.sink b) (reader_of x w a v b ran) fault) in
        unreceived_held w.reader.kinds kinds (HasLeft w.reader) (Holds kinds x.packets.items) of.kinds_are (left_of_box kinds x w.reader of) g w.sink v.sink a b v.reader e here

    -- and holds what it held, once its reader is ended
    served_turn : RestsOnHands g → (x : Inbox) (w : Receiving D S) (a : HandValue) (v : Receiving D S) (b c : HandValue) → Ran x w a v b → IsEnded v b c × Done g v b → IsServed g kinds (turn_of x w a v b) c
    served_turn rests x w a v b c ran end =
        let done = end.1 in
        let permits : c.permits ≡ b.permits + pins v.reader = end.0.permits in
        let holds = (ran.1.goes.held done.all.is_open).1 in
        let one = rests.held v.sink b c in
        let none : pins w.reader ≡ 0 = ran.0.of_box.none in
        record {
          all = whole_turn x w a v b ran done;
          serves = done.can.serves c end.0.follows.pool (omega (arith, permits));
          held = omega (arith, permits, holds, one, none);
          none = done.none;
          ended = end.0;
        }

    -- of a phase that was run ..
    ended_done : (vs : List (Receiving D S)) (bs cs : List HandValue) → AllThree IsEnded vs bs cs → AllZip (Done g) vs bs → AllThree (λ v b c. IsEnded v b c × Done g v b) vs bs cs
    ended_done [] [] [] h d = tt
    ended_done (v ∷ vs) (b ∷ bs) (c ∷ cs) h d = ((h.0, d.0), ended_done vs bs cs h.1 d.1)
    ended_done _ _ _ h d = absurd h

    pub has_received : RestsOnHands g → (xs : List Inbox) (ss : List S) (ws : List (Receiving D S)) (hs : List HandValue) (vs : List (Receiving D S)) (bs cs : List HandValue)
        → AllThree (HasBegun kinds) xs ss ws → AllRan (Gone g) ws hs vs bs → AllThree IsEnded vs bs cs → AllZip (Done g) vs bs → HasReceived g kinds xs ss hs (map sink_in vs) cs
    has_received rests xs ss ws hs vs bs cs began ran ended done =
        let five = ran_five xs ss ws hs vs bs began ran in
        record {
          turns = turns_of xs ws hs vs bs;
          are = are_turns Ran ss xs ws hs vs bs (begun_sinks kinds xs ss ws began) five;
          all = each_turn Ran (IsServed g kinds) (λ v b c. IsEnded v b c × Done g v b) xs ws hs vs bs cs (served_turn rests) five (ended_done vs bs cs ended done);
        }

    pub has_stopped : (xs : List Inbox) (ss : List S) (ws : List (Receiving D S)) (hs : List HandValue) (vs : List (Receiving D S)) (bs cs : List HandValue) (e : FeedErr F)
        → AllThree (HasBegun kinds) xs ss ws → AllRan (Gone g) ws hs vs bs → AllThree IsEnded vs bs cs → IsFaultAt (Done g) (Faulted g) hs vs bs e → HasStopped g kinds xs ss hs (map sink_in vs) cs e
    has_stopped xs ss ws hs vs bs cs e began ran ended fault =
        let five = ran_five xs ss ws hs vs bs began ran in
        let it = turn_at Ran xs ws hs vs bs fault.rank fault.before fault.work fault.after five fault.was fault.its fault.is in
        record {
          turns = turns_of xs ws hs vs bs;
          are = are_turns Ran ss xs ws hs vs bs (begun_sinks kinds xs ss ws began) five;
          ended = each_turn Ran (λ t c. IsEndOf t.left t.met c) IsEnded xs ws hs vs bs cs (λ x w a v b c r end. end) five ended;
          rank = fault.rank;
          turn = turn_of it.0 it.1 fault.before fault.work fault.after;
          at = it.3;
          unreceived = fault_turn it.0 it.1 fault.before fault.work fault.after e it.2 fault.here;
          lower = λ k t less is. at_turn Ran (TookBox g kinds) xs ws hs vs bs k t five is (λ x w a v b here its after. whole_turn x w a v b here (fault.lower k v b less its after));
        }

    -- .. the works own what they did
    pub still_own : (ws : List (Receiving D S)) (hs : List HandValue) (vs : List (Receiving D S)) (bs : List HandValue) → AllRan (Gone g) ws hs vs bs → AllZip IsOwn ws hs → AllZip IsOwn vs bs
    still_own [] [] [] [] h own = tt
    still_own (w ∷ ws) (a ∷ hs) (v ∷ vs) (b ∷ bs) h own = (h.0.goes.own own.0, still_own ws hs vs bs h.1 own.1)
    still_own _ _ _ _ h own = absurd h

    pub ran_follow : (ws : List (Receiving D S)) (hs : List HandValue) (vs : List (Receiving D S)) (bs : List HandValue) → AllRan (Gone g) ws hs vs bs → AllZip Follows hs bs
    ran_follow [] [] [] [] h = tt
    ran_follow (w ∷ ws) (a ∷ hs) (v ∷ vs) (b ∷ bs) h = (h.0.goes.follows, ran_follow ws hs vs bs h.1)
    ran_follow _ _ _ _ h = absurd h

    -- .. and the sinks are what later ones may be
    works_stay : (ws : List (Receiving D S)) (hs : List HandValue) (vs : List (Receiving D S)) (bs : List HandValue) → AllRan (Gone g) ws hs vs bs → AllZip g.stays (map sink_in ws) (map sink_in vs)
    works_stay [] [] [] [] h = tt
    works_stay (w ∷ ws) (a ∷ hs) (v ∷ vs) (b ∷ bs) h = (h.0.goes.stays, works_stay ws hs vs bs h.1)
    works_stay _ _ _ _ h = absurd h

    pub sinks_stay : (xs : List Inbox) (ss : List S) (ws : List (Receiving D S)) (hs : List HandValue) (vs : List (Receiving D S)) (bs : List HandValue)
        → AllThree (HasBegun kinds) xs ss ws → AllRan (Gone g) ws hs vs bs → AllZip g.stays ss (map sink_in vs)
    sinks_stay xs ss ws hs vs bs began ran = subst (λ l. AllZip g.stays l (map sink_in vs)) (begun_sinks kinds xs ss ws began) (works_stay ws hs vs bs ran)

  pub hands_follow : (hs : List HandValue) (vs : List (Receiving D S)) (bs cs : List HandValue) → AllZip Follows hs bs → AllThree IsEnded vs bs cs → AllZip Follows hs cs
  hands_follow [] [] [] [] h e = tt
  hands_follow (a ∷ hs) (v ∷ vs) (b ∷ bs) (c ∷ cs) h e = (follows_trans a b c h.0 e.0.follows, hands_follow hs vs bs cs h.1 e.1)
  hands_follow [] vs (b ∷ bs) cs h e = absurd h
  hands_follow (a ∷ hs) vs [] cs h e = absurd h
  hands_follow _ _ _ _ h e = absurd e

  -- the works may be stepped
  module _ {F : Type 0} (g : Ghosts S HandValue F) (laws : HasLaws g) (rests : RestsOnHands g) (kinds : List Kind) (some : 0 < length kinds) where
    can_one : (x : Inbox) (s : S) (w : Receiving D S) (a : HandValue) → HasBegun kinds x s w → AreForHand a x → CanTake g kinds s a
        → CanGoOn g w.reader_was.value w.sink_was.value w.reader w.pinned w.sink a
    can_one x s w a h own can =
        let r = w.reader in
        let of = h.of_box in
        let from = h.started in
        let none : pins r ≡ 0 = of.none in
        let serve : CanServe g r s a = record {
          serves = λ b same more. can.serves b same (omega (arith, none, more));
          permit = let p = can.permit in omega (arith, none, p);
        } in
        let receive : CanReceive g r s a = record {
          some = subst (λ (ks : List Kind). 0 < length ks) (sym of.kinds_are) some;
          accepts = subst (g.accepts s) (sym of.kinds_are) can.accepts;
          own = of.own a.pool own;
          rests = rests;
          can = serve;
          is_open = can.is_open;
        } in
        let whole : CanGoOn g r s r w.pinned s a = record {
          can = receive;
          pinned_is = subst (λ p. pins r ≡ cond p 1 0) (sym from.pinned_is) none;
          received = received_start g laws a.pool r s can.is_open;
          kinds = refl;
        } in
        subst (λ y. CanGoOn g y w.sink_was.value r w.pinned w.sink a) (sym from.reader_was)
        (subst (λ y. CanGoOn g r y r w.pinned w.sink a) (sym from.sink_was)
        (subst (λ y. CanGoOn g r s r w.pinned y a) (sym from.sink_is) whole))

    pub can_all : (xs : List Inbox) (ss : List S) (ws : List (Receiving D S)) (hs : List HandValue) → AllThree (HasBegun kinds) xs ss ws → AllZip AreForHand hs xs → AllZip (CanTake g kinds) ss hs
        → AllZip (λ (w : Receiving D S) a. CanGoOn g w.reader_was.value w.sink_was.value w.reader w.pinned w.sink a) ws hs
    can_all [] [] [] [] h own can = tt
    can_all [] [] [] (a ∷ hs) h own can = absurd own
    can_all (x ∷ xs) (s ∷ ss) (w ∷ ws) [] h own can = absurd own
    can_all (x ∷ xs) (s ∷ ss) (w ∷ ws) (a ∷ hs) h own can = (can_one x s w a h.0 own.0 can.0, can_all xs ss ws hs h.1 own.1 can.1)
    can_all _ _ _ hs h own can = absurd h

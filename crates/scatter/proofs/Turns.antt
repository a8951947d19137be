-- The turns of a phase, of the works before and after it.
use Rattle.std.proofs.Common.{◌≡◌, ℕ, zero, suc, ◌+◌, List, [], ◌∷◌, map, Some, refl, sym, ap, subst, ◌∙◌, arith, Result, Ok, Err, OnOk, IfErr}
use Rattle.std.specs.Prelude.{All, slice_get}
use Rattle.std.specs.List.{AllZip}
use Rattle.std.proofs.lemmas.List.Elements.{All-nil, All-cons, All-head, All-tail}
use Rattle.block_pool.specs.Handles.{HandValue, AreOfPool, Follows}
use Rattle.block_pool.specs.Follows.{follows_trans}
use Rattle.row_defs.specs.LocalOps.{LocalOp, AreSoundOps}
use Rattle.lop_chain.specs.Rows.{Kinds}
use Rattle.lop_chain.specs.declared.sink.RowSink.{Ghosts}
use Rattle.lent_step.specs.Lending.{AllRan, IsFaultAt}
use Rattle.lent_step.specs.Lending.{IfFault}
use Rattle.lent_step.specs.declared.phase.Stopped.{Stopped}
use Rattle.lent_step.specs.declared.phase.Stopped.TheVariants as stopped
use Rattle.scatter.specs.declared.feed_err.FeedErr.{FeedErr}
use Rattle.scatter.specs.declared.feed_err.FeedErr.TheVariants.{NoMemory}
use Rattle.scatter.specs.declared.sending.Sending.{Sending}
use Rattle.scatter.specs.Feeds.{FeedValue}
use Rattle.scatter.specs.Fitting.{RestsOnHands, CanFeed}
use Rattle.scatter.specs.Sends.{IsSent, Unsent, CanSend, CanGoOn, HasLaws}
use Rattle.scatter.specs.SendLaws.{same_feed_refl}
use Rattle.scatter.specs.Stocks.{FeedsAreInPools}
use Rattle.scatter.proofs.SentRows.{sent_start}
use Rattle.scatter.specs.Phases.{AllThree, HasBegun, IsOwn, IsEnded, file_kept, sink_in, Turn, AreTurns, TookWhole, IsServed, HasSent, HasStopped, CanTake, pools_of, Gone, Done, Faulted, flat_answer}
use Rattle.scatter.specs.Begun.{IsNew}

module _ {D S : Type 0} where
  abbrev pub turn_of : Sending D S → HandValue → Sending D S → HandValue → Turn S
  turn_of w a v b = record { feed = w.feed; sink = w.sink; hand = a; left = v.feed; took = v.sink; met = b }

  abbrev pub turns_of : List (Sending D S) → List HandValue → List (Sending D S) → List HandValue → List (Turn S)
  turns_of (w ∷ ws) (a ∷ hs) (v ∷ vs) (b ∷ bs) = turn_of w a v b ∷ turns_of ws hs vs bs
  turns_of _ _ _ _ = []

  abbrev pub IsFresh : Sending D S → Type 0
  IsFresh w = (w.feed_was.value ≡ w.feed) × (w.sink_was.value ≡ w.sink) × (w.feed.pinned ≡ 0)

  -- what began
  pub begun_feeds : (fs : List FeedValue) (ss : List S) (ws : List (Sending D S)) → AllThree HasBegun fs ss ws → map (λ (w : Sending D S). w.feed) ws ≡ fs
  begun_feeds [] [] [] h = refl
  begun_feeds (f ∷ fs) (s ∷ ss) (w ∷ ws) h = let rest = begun_feeds fs ss ws h.1 in let here = h.0.feed_is in cc
  begun_feeds _ _ _ h = absurd h

  pub begun_sinks : (fs : List FeedValue) (ss : List S) (ws : List (Sending D S)) → AllThree HasBegun fs ss ws → map sink_in ws ≡ ss
  begun_sinks [] [] [] h = refl
  begun_sinks (f ∷ fs) (s ∷ ss) (w ∷ ws) h = let rest = begun_sinks fs ss ws h.1 in let here = h.0.sink_is in cc
  begun_sinks _ _ _ h = absurd h

  pub begun_fresh : (fs : List FeedValue) (ss : List S) (ws : List (Sending D S)) → AllThree HasBegun fs ss ws → All IsNew fs → All IsFresh ws
  begun_fresh [] [] [] h new = All-nil IsFresh
  begun_fresh (f ∷ fs) (s ∷ ss) (w ∷ ws) h new =
      let b = h.0 in
      All-cons IsFresh w ws (b.feed_was ∙ sym b.feed_is, b.sink_was ∙ sym b.sink_is, ap (λ (x : FeedValue). x.pinned) b.feed_is ∙ (All-head IsNew f fs new).0)
      (begun_fresh fs ss ws h.1 (All-tail IsNew f fs new))
  begun_fresh _ _ _ h new = absurd h

  -- the works own what their feeds do
  pub begun_keeps : (fs : List FeedValue) (ss : List S) (ws : List (Sending D S)) → AllThree HasBegun fs ss ws → map file_kept ws ≡ map (λ (f : FeedValue). f.keeps) fs
  begun_keeps [] [] [] h = refl
  begun_keeps (f ∷ fs) (s ∷ ss) (w ∷ ws) h =
      let rest = begun_keeps fs ss ws h.1 in
      let here : w.feed.keeps ≡ f.keeps = ap (λ (x : FeedValue). x.keeps) h.0.feed_is in
      cc
  begun_keeps _ _ _ h = absurd h

  module _ (R : Sending D S → HandValue → Sending D S → HandValue → Type 0) where
    pub ran_fresh : (ws : List (Sending D S)) (hs : List HandValue) (vs : List (Sending D S)) (bs : List HandValue) → All IsFresh ws → AllRan R ws hs vs bs
        → AllRan (λ w a v b. IsFresh w × R w a v b) ws hs vs bs
    ran_fresh [] [] [] [] all h = tt
    ran_fresh (w ∷ ws) (a ∷ hs) (v ∷ vs) (b ∷ bs) all h = ((All-head IsFresh w ws all, h.0), ran_fresh ws hs vs bs (All-tail IsFresh w ws all) h.1)
    ran_fresh _ _ _ _ all h = absurd h

    pub turn_feeds : (ws : List (Sending D S)) (hs : List HandValue) (vs : List (Sending D S)) (bs : List HandValue) → AllRan R ws hs vs bs
        → map (λ (t : Turn S). t.feed) (turns_of ws hs vs bs) ≡ map (λ (w : Sending D S). w.feed) ws
    turn_feeds [] [] [] [] h = refl
    turn_feeds (w ∷ ws) (a ∷ hs) (v ∷ vs) (b ∷ bs) h = ap (λ l. w.feed ∷ l) (turn_feeds ws hs vs bs h.1)
    turn_feeds _ _ _ _ h = absurd h

    pub turn_sinks : (ws : List (Sending D S)) (hs : List HandValue) (vs : List (Sending D S)) (bs : List HandValue) → AllRan R ws hs vs bs
        → map (λ (t : Turn S). t.sink) (turns_of ws hs vs bs) ≡ map sink_in ws
    turn_sinks [] [] [] [] h = refl
    turn_sinks (w ∷ ws) (a ∷ hs) (v ∷ vs) (b ∷ bs) h = ap (λ l. w.sink ∷ l) (turn_sinks ws hs vs bs h.1)
    turn_sinks _ _ _ _ h = absurd h

    pub turn_hands : (ws : List (Sending D S)) (hs : List HandValue) (vs : List (Sending D S)) (bs : List HandValue) → AllRan R ws hs vs bs
        → map (λ (t : Turn S). t.hand) (turns_of ws hs vs bs) ≡ hs
    turn_hands [] [] [] [] h = refl
    turn_hands (w ∷ ws) (a ∷ hs) (v ∷ vs) (b ∷ bs) h = ap (λ l. a ∷ l) (turn_hands ws hs vs bs h.1)
    turn_hands _ _ _ _ h = absurd h

    pub turn_took : (ws : List (Sending D S)) (hs : List HandValue) (vs : List (Sending D S)) (bs : List HandValue) → AllRan R ws hs vs bs
        → map (λ (t : Turn S). t.took) (turns_of ws hs vs bs) ≡ map sink_in vs
    turn_took [] [] [] [] h = refl
    turn_took (w ∷ ws) (a ∷ hs) (v ∷ vs) (b ∷ bs) h = ap (λ l. v.sink ∷ l) (turn_took ws hs vs bs h.1)
    turn_took _ _ _ _ h = absurd h

    pub are_turns : (fs : List FeedValue) (ss : List S) (ws : List (Sending D S)) (hs : List HandValue) (vs : List (Sending D S)) (bs : List HandValue)
        → AllThree HasBegun fs ss ws → AllRan R ws hs vs bs → AreTurns (turns_of ws hs vs bs) fs ss hs (map sink_in vs)
    are_turns fs ss ws hs vs bs begun ran = record {
      feeds_are = turn_feeds ws hs vs bs ran ∙ begun_feeds fs ss ws begun;
      sinks_are = turn_sinks ws hs vs bs ran ∙ begun_sinks fs ss ws begun;
      hands_are = turn_hands ws hs vs bs ran;
      took_is = turn_took ws hs vs bs ran;
    }

    -- what holds of each turn and the hand at the end
    pub each_turn : (P : Turn S → HandValue → Type 0) (E : Sending D S → HandValue → HandValue → Type 0)
        → (ws : List (Sending D S)) (hs : List HandValue) (vs : List (Sending D S)) (bs cs : List HandValue)
        → ((w : Sending D S) (a : HandValue) (v : Sending D S) (b c : HandValue) → R w a v b → E v b c → P (turn_of w a v b) c)
        → AllRan R ws hs vs bs → AllThree E vs bs cs → AllZip P (turns_of ws hs vs bs) cs
    each_turn P E [] [] [] [] [] f h e = tt
    each_turn P E [] [] [] [] (c ∷ cs) f h e = absurd e
    each_turn P E (w ∷ ws) (a ∷ hs) (v ∷ vs) (b ∷ bs) [] f h e = absurd e
    each_turn P E (w ∷ ws) (a ∷ hs) (v ∷ vs) (b ∷ bs) (c ∷ cs) f h e = (f w a v b c h.0 e.0, each_turn P E ws hs vs bs cs f h.1 e.1)
    each_turn P E _ _ _ _ _ f h e = absurd h

    -- the turn of a rank ..
    pub turn_at : (ws : List (Sending D S)) (hs : List HandValue) (vs : List (Sending D S)) (bs : List HandValue) (k : ℕ) (a : HandValue) (v : Sending D S) (b : HandValue)
        → AllRan R ws hs vs bs → slice_get hs k ≡ Some a → slice_get vs k ≡ Some v → slice_get bs k ≡ Some b
        → (w : Sending D S) × R w a v b × (slice_get (turns_of ws hs vs bs) k ≡ Some (turn_of w a v b))
    turn_at [] [] [] [] k a v b h p q r = cc
    turn_at (w ∷ ws) (x ∷ hs) (y ∷ vs) (z ∷ bs) zero a v b h p q r =
        let i : x ≡ a = cc in
        let j : y ≡ v = cc in
        let l : z ≡ b = cc in
        (w, subst (λ o. R w a v o) l (subst (λ o. R w a o z) j (subst (λ o. R w o y z) i h.0)), cc)
    turn_at (w ∷ ws) (x ∷ hs) (y ∷ vs) (z ∷ bs) (suc k) a v b h p q r = turn_at ws hs vs bs k a v b h.1 p q r
    turn_at _ _ _ _ k a v b h p q r = absurd h

    -- .. and whose it is
    pub turn_is : (ws : List (Sending D S)) (hs : List HandValue) (vs : List (Sending D S)) (bs : List HandValue) (k : ℕ) (t : Turn S)
        → AllRan R ws hs vs bs → slice_get (turns_of ws hs vs bs) k ≡ Some t
        → (w : Sending D S) × (a : HandValue) × (v : Sending D S) × (b : HandValue) × R w a v b × (turn_of w a v b ≡ t) × (slice_get vs k ≡ Some v) × (slice_get bs k ≡ Some b)
    turn_is [] [] [] [] k t h p = cc
    turn_is (w ∷ ws) (a ∷ hs) (v ∷ vs) (b ∷ bs) zero t h p = (w, a, v, b, h.0, cc, refl, refl)
    turn_is (w ∷ ws) (a ∷ hs) (v ∷ vs) (b ∷ bs) (suc k) t h p = turn_is ws hs vs bs k t h.1 p
    turn_is _ _ _ _ k t h p = absurd h

  module _ {F : Type 0} (g : Ghosts S HandValue F) where
    abbrev Ran : Sending D S → HandValue → Sending D S → HandValue → Type 0
    Ran w a v b = IsFresh w × Gone g w a v b

    -- a work that is done sent all rows of the feed that it began with
    whole_turn : (w : Sending D S) (a : HandValue) (v : Sending D S) (b : HandValue) → Ran w a v b → Done g v b → TookWhole g (turn_of w a v b)
    whole_turn w a v b ran done =
        let feed : v.feed_was.value ≡ w.feed = ran.1.feed_was ∙ ran.0.0 in
        let sink : v.sink_was.value ≡ w.sink = ran.1.sink_was ∙ ran.0.1 in
        record {
          sent = subst (λ s. IsSent g a.pool w.feed s v.feed v.sink) sink
              (subst (λ f. IsSent g a.pool f v.sink_was.value v.feed v.sink) feed
              (subst (λ pool. IsSent g pool v.feed_was.value v.sink_was.value v.feed v.sink) ran.1.goes.follows.pool done.sent));
          none = done.none;
        }

    fault_turn : (w : Sending D S) (a : HandValue) (v : Sending D S) (b : HandValue) (e : FeedErr F) → Ran w a v b → Faulted g a e v b → Unsent g w.feed w.sink a e v.feed v.sink b
    fault_turn w a v b e ran fault =
        let feed : v.feed_was.value ≡ w.feed = ran.1.feed_was ∙ ran.0.0 in
        let sink : v.sink_was.value ≡ w.sink = ran.1.sink_was ∙ ran.0.1 in
        subst (λ s. Unsent g w.feed s a e v.feed v.sink b) sink (subst (λ f. Unsent g f v.sink_was.value a e v.feed v.sink b) feed fault)

    -- and holds what it held, once its feed is ended
    served_turn : RestsOnHands g → (w : Sending D S) (a : HandValue) (v : Sending D S) (b c : HandValue) → Ran w a v b → IsEnded v b c × Done g v b → IsServed g (turn_of w a v b) c
    served_turn rests w a v b c ran end =
        let done = end.1 in
        let permits : c.permits ≡ b.permits + v.feed.pinned = end.0.1 in
        let holds = (ran.1.goes.held done.sent.is_open).1 in
        let one = rests.held v.sink b c in
        let none : w.feed.pinned ≡ 0 = ran.0.2 in
        record {
          whole = whole_turn w a v b ran done;
          serves = done.can.serves c end.0.0.pool (omega arith);
          held = omega arith;
        }

    -- of a phase that was run ..
    ended_done : (vs : List (Sending D S)) (bs cs : List HandValue) → AllThree IsEnded vs bs cs → AllZip (Done g) vs bs → AllThree (λ v b c. IsEnded v b c × Done g v b) vs bs cs
    ended_done [] [] [] h d = tt
    ended_done (v ∷ vs) (b ∷ bs) (c ∷ cs) h d = ((h.0, d.0), ended_done vs bs cs h.1 d.1)
    ended_done _ _ _ h d = absurd h

    pub has_sent : RestsOnHands g → (fs : List FeedValue) (ss : List S) (ws : List (Sending D S)) (hs : List HandValue) (vs : List (Sending D S)) (bs cs : List HandValue)
        → AllThree HasBegun fs ss ws → All IsNew fs → AllRan (Gone g) ws hs vs bs → AllThree IsEnded vs bs cs → AllZip (Done g) vs bs → HasSent g fs ss hs (map sink_in vs) cs
    has_sent rests fs ss ws hs vs bs cs begun new ran ended done =
        let fresh = ran_fresh (Gone g) ws hs vs bs (begun_fresh fs ss ws begun new) ran in
        record {
          turns = turns_of ws hs vs bs;
          are = are_turns (Gone g) fs ss ws hs vs bs begun ran;
          all = each_turn Ran (IsServed g) (λ v b c. IsEnded v b c × Done g v b) ws hs vs bs cs (served_turn rests) fresh (ended_done vs bs cs ended done);
        }

    pub has_stopped : (fs : List FeedValue) (ss : List S) (ws : List (Sending D S)) (hs : List HandValue) (vs : List (Sending D S)) (bs cs : List HandValue) (e : FeedErr F)
        → AllThree HasBegun fs ss ws → All IsNew fs → AllRan (Gone g) ws hs vs bs → AllThree IsEnded vs bs cs → IsFaultAt (Done g) (Faulted g) hs vs bs e → HasStopped g fs ss hs (map sink_in vs) cs e
    has_stopped fs ss ws hs vs bs cs e begun new ran ended fault =
        let fresh = ran_fresh (Gone g) ws hs vs bs (begun_fresh fs ss ws begun new) ran in
        let it = turn_at Ran ws hs vs bs fault.rank fault.before fault.work fault.after fresh fault.was fault.its fault.is in
        record {
          turns = turns_of ws hs vs bs;
          are = are_turns (Gone g) fs ss ws hs vs bs begun ran;
          later = each_turn Ran (λ t c. Follows t.met c) IsEnded ws hs vs bs cs (λ w a v b c r end. end.0) fresh ended;
          rank = fault.rank;
          turn = turn_of it.0 fault.before fault.work fault.after;
          at = it.2;
          unsent = fault_turn it.0 fault.before fault.work fault.after e it.1 fault.here;
          lower = λ k t less is.
              let its = turn_is Ran ws hs vs bs k t fresh is in
              subst (λ u. TookWhole g u) its.5 (whole_turn its.0 its.1 its.2 its.3 its.4 (fault.lower k its.2 its.3 less its.6 its.7));
        }

    -- .. the works own what they did, and would give back the same files
    pub still_own : (ws : List (Sending D S)) (hs : List HandValue) (vs : List (Sending D S)) (bs : List HandValue) → AllRan (Gone g) ws hs vs bs → AllZip IsOwn ws hs → AllZip IsOwn vs bs
    still_own [] [] [] [] h own = tt
    still_own (w ∷ ws) (a ∷ hs) (v ∷ vs) (b ∷ bs) h own = (h.0.goes.own own.0, still_own ws hs vs bs h.1 own.1)
    still_own _ _ _ _ h own = absurd h

    pub same_keeps : (ws : List (Sending D S)) (hs : List HandValue) (vs : List (Sending D S)) (bs : List HandValue) → AllRan (Gone g) ws hs vs bs → map file_kept vs ≡ map file_kept ws
    same_keeps [] [] [] [] h = refl
    same_keeps (w ∷ ws) (a ∷ hs) (v ∷ vs) (b ∷ bs) h =
        let rest = same_keeps ws hs vs bs h.1 in
        let here : v.feed.keeps ≡ w.feed.keeps = h.0.goes.same.keeps in
        cc
    same_keeps _ _ _ _ h = absurd h

    pub ran_follow : (ws : List (Sending D S)) (hs : List HandValue) (vs : List (Sending D S)) (bs : List HandValue) → AllRan (Gone g) ws hs vs bs → AllZip Follows hs bs
    ran_follow [] [] [] [] h = tt
    ran_follow (w ∷ ws) (a ∷ hs) (v ∷ vs) (b ∷ bs) h = (h.0.goes.follows, ran_follow ws hs vs bs h.1)
    ran_follow _ _ _ _ h = absurd h

    -- .. the sinks are what later ones may be, and the hands
    pub sinks_stay : (fs : List FeedValue) (ss : List S) (ws : List (Sending D S)) (hs : List HandValue) (vs : List (Sending D S)) (bs : List HandValue)
        → AllThree HasBegun fs ss ws → AllRan (Gone g) ws hs vs bs → AllZip g.stays ss (map sink_in vs)
    sinks_stay [] [] [] [] [] [] begun h = tt
    sinks_stay [] [] [] (a ∷ hs) vs bs begun h = absurd h
    sinks_stay [] [] [] [] (v ∷ vs) bs begun h = absurd h
    sinks_stay [] [] [] [] [] (b ∷ bs) begun h = absurd h
    sinks_stay (f ∷ fs) (s ∷ ss) (w ∷ ws) (a ∷ hs) (v ∷ vs) (b ∷ bs) begun h =
        (subst (λ u. g.stays u v.sink) begun.0.sink_is h.0.goes.stays, sinks_stay fs ss ws hs vs bs begun.1 h.1)
    sinks_stay (f ∷ fs) (s ∷ ss) (w ∷ ws) [] vs bs begun h = absurd h
    sinks_stay (f ∷ fs) (s ∷ ss) (w ∷ ws) (a ∷ hs) [] bs begun h = absurd h
    sinks_stay (f ∷ fs) (s ∷ ss) (w ∷ ws) (a ∷ hs) (v ∷ vs) [] begun h = absurd h
    sinks_stay _ _ _ hs vs bs begun h = absurd begun

  pub hands_follow : (hs : List HandValue) (vs : List (Sending D S)) (bs cs : List HandValue) → AllZip Follows hs bs → AllThree IsEnded vs bs cs → AllZip Follows hs cs
  hands_follow [] [] [] [] h e = tt
  hands_follow (a ∷ hs) (v ∷ vs) (b ∷ bs) (c ∷ cs) h e = (follows_trans a b c h.0 e.0.0, hands_follow hs vs bs cs h.1 e.1)
  hands_follow [] vs (b ∷ bs) cs h e = absurd h
  hands_follow (a ∷ hs) vs [] cs h e = absurd h
  hands_follow _ _ _ _ h e = absurd e

  -- the works may be stepped
  module _ {F : Type 0} (g : Ghosts S HandValue F) (laws : HasLaws g) (rests : RestsOnHands g) (kinds to : Kinds) (ops : List LocalOp) (sound : AreSoundOps kinds ops to) where
    can_one : (f : FeedValue) (s : S) (w : Sending D S) (a : HandValue) → HasBegun f s w → f.kinds ≡ kinds → f.ops ≡ ops → IsNew f → AreOfPool a.pool f.blocks → CanTake g to s a
        → CanGoOn g w.feed_was.value w.sink_was.value w.feed w.sink a
    can_one f s w a begun has through new own can =
        let feed : CanFeed g f s a = record {
          serves = λ b same more. can.serves b same (let n = new in omega arith);
          permit = let n = new in let p = can.permit in omega arith;
        } in
        let send : CanSend g f s a = record {
          kinds = to;
          sound = rw (has, through) sound;
          accepts = can.accepts;
          own = own;
          rests = rests;
          can = feed;
          is_open = can.is_open;
        } in
        let whole : CanGoOn g f s f s a = record { can = send; sent = sent_start g laws a.pool f s can.is_open; same = same_feed_refl f } in
        subst (λ x. CanGoOn g x w.sink_was.value w.feed w.sink a) (sym begun.feed_was)
        (subst (λ x. CanGoOn g f x w.feed w.sink a) (sym begun.sink_was)
        (subst (λ x. CanGoOn g f s x w.sink a) (sym begun.feed_is)
        (subst (λ x. CanGoOn g f s f x a) (sym begun.sink_is) whole)))

    pub can_all : (fs : List FeedValue) (ss : List S) (ws : List (Sending D S)) (hs : List HandValue) → AllThree HasBegun fs ss ws
        → All (λ (f : FeedValue). f.kinds ≡ kinds) fs → All (λ (f : FeedValue). f.ops ≡ ops) fs → All IsNew fs → FeedsAreInPools (pools_of hs) fs → AllZip (CanTake g to) ss hs
        → AllZip (λ (w : Sending D S) a. CanGoOn g w.feed_was.value w.sink_was.value w.feed w.sink a) ws hs
    can_all [] [] [] [] begun has through new own can = tt
    can_all [] [] [] (a ∷ hs) begun has through new own can = absurd can
    can_all (f ∷ fs) (s ∷ ss) (w ∷ ws) [] begun has through new own can = absurd can
    can_all (f ∷ fs) (s ∷ ss) (w ∷ ws) (a ∷ hs) begun has through new own can =
        let K : FeedValue → Type 0 = λ f. f.kinds ≡ kinds in
        let O : FeedValue → Type 0 = λ f. f.ops ≡ ops in (
          can_one f s w a begun.0 (All-head K f fs has) (All-head O f fs through) (All-head IsNew f fs new) own.0 can.0,
          can_all fs ss ws hs begun.1 (All-tail K f fs has) (All-tail O f fs through) (All-tail IsNew f fs new) own.1 can.1,
        )
    can_all _ _ _ hs begun has through new own can = absurd begun

  pub begun_own : (fs : List FeedValue) (ss : List S) (ws : List (Sending D S)) (hs : List HandValue) → AllThree HasBegun fs ss ws → FeedsAreInPools (pools_of hs) fs → AllZip IsOwn ws hs
  begun_own [] [] [] [] begun own = tt
  begun_own [] [] [] (a ∷ hs) begun own = absurd own
  begun_own (f ∷ fs) (s ∷ ss) (w ∷ ws) [] begun own = absurd own
  begun_own (f ∷ fs) (s ∷ ss) (w ∷ ws) (a ∷ hs) begun own = (subst (λ (x : FeedValue). AreOfPool a.pool x.blocks) (sym begun.0.feed_is) own.0, begun_own fs ss ws hs begun.1 own.1)
  begun_own _ _ _ hs begun own = absurd begun

-- what a phase came to
pub flat_ok : {R : Type 0} (answer : Result (Unit {0}) (Stopped (FeedErr R))) (result : Result (Unit {0}) (FeedErr R)) (A B : Type 0) → result ≡ flat_answer answer → (A → B) → OnOk answer A → OnOk result B
flat_ok (Ok done) result A B is f a = subst (λ (r : Result (Unit {0}) (FeedErr _)). OnOk r B) (sym is) (f a)
flat_ok (Err stopped.NoMemory) result A B is f a = subst (λ (r : Result (Unit {0}) (FeedErr _)). OnOk r B) (sym is) tt
flat_ok (Err (stopped.Fault e)) result A B is f a = subst (λ (r : Result (Unit {0}) (FeedErr _)). OnOk r B) (sym is) tt

pub flat_err : {R : Type 0} (answer : Result (Unit {0}) (Stopped (FeedErr R))) (result : Result (Unit {0}) (FeedErr R)) (P Q : FeedErr R → Type 0) → result ≡ flat_answer answer
    → ((e : FeedErr R) → P e → Q e) → Q NoMemory → IfFault answer P → IfErr result Q
flat_err (Ok done) result P Q is f none a = subst (λ (r : Result (Unit {0}) (FeedErr _)). IfErr r Q) (sym is) tt
flat_err (Err stopped.NoMemory) result P Q is f none a = subst (λ (r : Result (Unit {0}) (FeedErr _)). IfErr r Q) (sym is) none
flat_err (Err (stopped.Fault e)) result P Q is f none a = subst (λ (r : Result (Unit {0}) (FeedErr _)). IfErr r Q) (sym is) (f e a)

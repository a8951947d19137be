-- What senders do in a phase.
use Rattle.std.proofs.Common.{◌≡◌, ℕ, zero, suc, ◌+◌, ◌<◌, ◌≤◌, false, List, [], ◌∷◌, ◌++◌, map, length, replicate, Option, None, refl, sym, ap, ap₂, subst, ◌∙◌, arith}
use Rattle.std.specs.Prelude.{All, slice_index_or}
use Rattle.std.specs.List.{AllZip, AllByRecursion}
use Rattle.multiplexer.specs.Sending.{IsSentFrom}
use Rattle.std.proofs.lemmas.List.Elements.{All-nil, All-cons, All-head, All-tail}
use Rattle.row_defs.specs.declared.kind.Kind.{Kind}
use Rattle.row_defs.specs.Rows.{Row}
use Rattle.block_pool.specs.Handles.{FrameValue, HandValue, PoolName}
use Rattle.block_pool.specs.declared.pool.TheConstants.{LEAST_BLOCK}
use Rattle.dia_file.specs.Encoding.{encoded, AreOf}
use Rattle.dia_file.specs.Frames.{frame_bytes}
use Rattle.lop_chain.specs.Ops.{rows_from}
use Rattle.lop_chain.specs.declared.sink.RowSink.{Ghosts}
use Rattle.multiplexer.specs.declared.post.Post as posts
use Rattle.exchange.specs.Dealing.{sent_to, bytes_to, joined, open_frames, AreOpenIn}
use Rattle.exchange.specs.Deals.{AreRouted, rows_to}
use Rattle.exchange.specs.Serving.{Asked, Answered, answers_of, ScatterValue, Serves}
use Rattle.exchange.specs.Serving as serving
use Rattle.exchange.specs.declared.scatter_err.ScatterErr.{ScatterErr}
use Rattle.scatter.specs.Phases.{Turn, AllThree, CanTake, IsServed}
use Rattle.scatter.proofs.Arriving.{sink_before, sink_after, hand_in, IsToldTurn, whole_rows}
use Rattle.link.specs.Linking.{CanRoute, HasFrames, HasDealt}
use Rattle.link.specs.Scattering.{IsNewPost, IsFreshScatter, IsReadyScatter, IsSentOff, IsFreed}
use Rattle.link.specs.Dealers.{TookOfKinds}
use Rattle.link.proofs.Sent.{made_in}

-- a hand of the same pool with no fewer permits serves a scatter too
pub rests : {F P : Type 0} (p : posts.Ghosts P) (s : ScatterValue F P) (a b : HandValue) → b.pool ≡ a.pool → a.permits ≤ b.permits → serving.IsServed p s a → serving.IsServed p s b
rests p s a b same more is =
    let room = is.room in
    record {
      own = subst (λ (pool : PoolName). AreOpenIn pool s.frames) (sym same) is.own;
      block = subst (λ (pool : PoolName). LEAST_BLOCK ≤ pool.opening.block) (sym same) is.block;
      room = omega (arith, room, more);
      len = is.len;
      lanes = is.lanes;
      since = λ w.
          let so = is.since w in
          let more = so.more in
          record {
            more = record { more = more.more; are = more.are; good = subst (λ (pool : PoolName). AllByRecursion (IsSentFrom pool) more.more) (sym same) more.good };
            begun_few = so.begun_few;
            few = so.few;
          };
      most = is.most;
      few_workers = is.few_workers;
    }

module _ {F P : Type 0} (p : posts.Ghosts P) (pre : Asked F) (post : Answered F) (kinds : List Kind) (workers : ℕ) where
  ready_one : (route : F) (through : P) (s : ScatterValue F P) → IsFreshScatter p kinds workers route through s → IsNewPost p workers through → CanRoute pre post kinds workers route
      → IsReadyScatter p pre post kinds workers s
  ready_one route through s fresh new can =
      let to : p.workers s.post ≡ workers = ap p.workers fresh.post_is ∙ new.workers_are in
      record {
        accepts = (
          fresh.kinds_are,
          λ r n is below.
              let may = can r n is below in (
                subst (λ (f : F). pre f r n) (sym fresh.route_is) may.0,
                λ w answer. subst (λ (k : ℕ). w < k) (sym to) (may.1 w (subst (λ (f : F). post f r n w) fresh.route_is answer)),
              ),
        );
        is_open = fresh.is_open;
        serves = fresh.serves;
      }

  -- fresh scatters take rows of their kinds
  pub fresh_ready : (routes : List F) (through : List P) (ss : List (ScatterValue F P)) → AllThree (IsFreshScatter p kinds workers) routes through ss → All (IsNewPost p workers) through
      → All (CanRoute pre post kinds workers) routes → All (IsReadyScatter p pre post kinds workers) ss
  fresh_ready [] [] [] fresh new can = All-nil (IsReadyScatter p pre post kinds workers)
  fresh_ready (route ∷ routes) (t ∷ through) (s ∷ ss) fresh new can =
      let New = IsNewPost p workers in
      let Can = CanRoute pre post kinds workers in
      All-cons (IsReadyScatter p pre post kinds workers) s ss (ready_one route t s fresh.0 (All-head New t through new) (All-head Can route routes can))
      (fresh_ready routes through ss fresh.1 (All-tail New t through new) (All-tail Can route routes can))
  fresh_ready _ _ _ fresh new can = absurd fresh

  -- each takes them with a hand that has a permit for a frame for each worker and one more
  module _ (g : Ghosts (ScatterValue F P) HandValue ScatterErr) (accepts : (s : ScatterValue F P) → serving.Accepts pre post p s kinds → g.accepts s kinds) (is_open : (s : ScatterValue F P) → s.is_shut ≡ false → g.is_shut s ≡ false)
      (serves : (s : ScatterValue F P) (d : HandValue) → serving.IsServed p s d → g.serves s d) where
    can_one : (s : ScatterValue F P) (a : HandValue) → IsReadyScatter p pre post kinds workers s → HasFrames workers a → CanTake g kinds s a
    can_one s a ready has =
        let permits = has.0 in
        record {
          accepts = accepts s ready.accepts;
          is_open = is_open s ready.is_open;
          serves = λ b same more. serves s b (ready.serves b (omega (arith, permits, more)) (subst (λ (pool : PoolName). LEAST_BLOCK ≤ pool.opening.block) (sym same) has.1));
          permit = omega (arith, permits);
        }

    pub can_take : (ss : List (ScatterValue F P)) (hs : List HandValue) → length ss ≡ length hs → All (IsReadyScatter p pre post kinds workers) ss → All (HasFrames workers) hs → AllZip (CanTake g kinds) ss hs
    can_take [] [] long ready has = tt
    can_take [] (a ∷ hs) long ready has = absurd (omega (arith, long))
    can_take (s ∷ ss) [] long ready has = absurd (omega (arith, long))
    can_take (s ∷ ss) (a ∷ hs) long ready has =
        let Ready = IsReadyScatter p pre post kinds workers in
        let Has = HasFrames workers in
        (can_one s a (All-head Ready s ss ready) (All-head Has a hs has), can_take ss hs (omega (arith, long)) (All-tail Ready s ss ready) (All-tail Has a hs has))

  no_frame : (n w : ℕ) → frame_bytes (slice_index_or (replicate n None) w None) ≡ []
  no_frame zero w = refl
  no_frame (suc n) zero = refl
  no_frame (suc n) (suc w) = no_frame n w

  none_open : (n : ℕ) → open_frames (replicate n None) ≡ 0
  none_open zero = refl
  none_open (suc n) = none_open n

  -- a turn whose scatter took no row before: of these kinds, by this route, with nothing on its way
  pub record IsFreshTurn (route : F) (t : Turn (ScatterValue F P)) : Type 0 where
    pub kinds_are : t.sink.kinds ≡ kinds
    pub route_is : t.sink.route ≡ route
    pub none : t.sink.taken ≡ 0
    pub silent : (w : ℕ) → bytes_to (p.sent t.sink.post) t.sink.frames w ≡ []
    pub closed : open_frames t.sink.frames ≡ 0

  fresh_one : (route : F) (through : P) (t : Turn (ScatterValue F P)) → IsFreshScatter p kinds workers route through t.sink → IsNewPost p workers through → IsFreshTurn route t
  fresh_one route through t fresh new = record {
    kinds_are = fresh.kinds_are;
    route_is = fresh.route_is;
    none = fresh.none;
    silent = λ w.
        ap₂ (λ (q : P) (fs : List (Option FrameValue)). bytes_to (p.sent q) fs w) fresh.post_is fresh.frames_are
        ∙ ap₂ (λ (bs : List _) (xs : List ℕ). joined bs ++ xs) (new.none w) (no_frame workers w);
    closed = ap open_frames fresh.frames_are ∙ none_open workers;
  }

  pub fresh_turns : (routes : List F) (through : List P) (turns : List (Turn (ScatterValue F P))) → AllThree (IsFreshScatter p kinds workers) routes through (map sink_before turns)
      → All (IsNewPost p workers) through → AllZip IsFreshTurn routes turns
  fresh_turns [] [] [] fresh new = tt
  fresh_turns [] [] (t ∷ turns) fresh new = absurd fresh
  fresh_turns [] (q ∷ through) turns fresh new = absurd fresh
  fresh_turns (route ∷ routes) [] turns fresh new = absurd fresh
  fresh_turns (route ∷ routes) (q ∷ through) [] fresh new = absurd fresh
  fresh_turns (route ∷ routes) (q ∷ through) (t ∷ turns) fresh new =
      let New = IsNewPost p workers in
      (fresh_one route q t fresh.0 (All-head New q through new), fresh_turns routes through turns fresh.1 (All-tail New q through new))

  -- through the post came the bytes of just these rows, each to its worker
  abbrev pub HasBytes : List Row → List ℕ → P → Type 0
  HasBytes rows to q = (w : ℕ) → joined (sent_to (p.sent q) w) ≡ encoded (rows_to w rows to)

  module _ (g : Ghosts (ScatterValue F P) HandValue ScatterErr) (took : (s t : ScatterValue F P) (rows : List Row) → g.took s rows t → TookOfKinds post p s rows t)
      (served : (s : ScatterValue F P) (d : HandValue) → g.serves s d → serving.IsServed p s d) where
    -- a turn, the hand once the phase is over, and the post once its scatter was finished with that
    pub record IsEndedTurn (t : Turn (ScatterValue F P)) (b : HandValue) (q : P) : Type 0 where
      pub is : IsServed g t b
      pub off : IsSentOff p t.took b q

    pub ended_turns : (turns : List (Turn (ScatterValue F P))) (now : List HandValue) (through : List P) → AllZip (IsServed g) turns now → AllThree (IsSentOff p) (map sink_after turns) now through
        → AllThree IsEndedTurn turns now through
    ended_turns [] [] [] all off = tt
    ended_turns [] [] (q ∷ through) all off = absurd off
    ended_turns [] (b ∷ now) through all off = absurd all
    ended_turns (t ∷ turns) [] through all off = absurd all
    ended_turns (t ∷ turns) (b ∷ now) [] all off = absurd off
    ended_turns (t ∷ turns) (b ∷ now) (q ∷ through) all off = (record { is = all.0; off = off.0 }, ended_turns turns now through all.1 off.1)

    -- what a worker sent
    pub record IsSender (route : F) (t : Turn (ScatterValue F P)) (q : P) : Type 0 where
      pub rows : List Row
      pub to : List ℕ
      pub dealt : HasDealt post kinds route rows to
      pub made : IsToldTurn t → rows ≡ made_in t
      pub bytes : HasBytes rows to q

    sender_one : (route : F) (t : Turn (ScatterValue F P)) (b : HandValue) (q : P) → IsFreshTurn route t → IsEndedTurn t b q → IsSender route t q
    sender_one route t b q fresh end =
        let whole = end.is.whole in
        let rows = rows_from t.feed.ops whole.sent.rows in
        let all = took t.sink t.took rows whole.sent.took in
        let dealt = all.took.0 in
        let A : F → Type 0 = λ f. AreRouted (answers_of post f) 0 rows dealt.to in
        let B : ℕ → Type 0 = λ n. AreRouted (answers_of post t.sink.route) n rows dealt.to in
        let C : List Kind → Type 0 = λ ks. AreOf ks rows in
        let serves = served t.took b end.is.serves in
        let most = serves.most in
        let count = dealt.count in
        let none = fresh.none in
        record {
          rows = rows;
          to = dealt.to;
          dealt = record { routed = subst A fresh.route_is (subst B fresh.none dealt.routed); are = subst C fresh.kinds_are all.are; few = omega (arith, most, count, none) };
          made = λ told. ap (rows_from t.feed.ops) (sym (whole_rows g t whole told));
          bytes = λ w. end.off.bytes w ∙ dealt.bytes w ∙ ap (λ (before : List ℕ). before ++ encoded (rows_to w rows dealt.to)) (fresh.silent w);
        }

    -- what all workers sent
    pub record AreSenders (routes : List F) (turns : List (Turn (ScatterValue F P))) (through : List P) : Type 0 where
      pub rows : List (List Row)
      pub to : List (List ℕ)
      pub dealt : AllThree (HasDealt post kinds) routes rows to
      pub made : All IsToldTurn turns → rows ≡ map made_in turns
      pub bytes : AllThree HasBytes rows to through

    sender_more : (route : F) (t : Turn (ScatterValue F P)) (q : P) (routes : List F) (turns : List (Turn (ScatterValue F P))) (through : List P) → IsSender route t q → AreSenders routes turns through
        → AreSenders (route ∷ routes) (t ∷ turns) (q ∷ through)
    sender_more route t q routes turns through one rest = record {
      rows = one.rows ∷ rest.rows;
      to = one.to ∷ rest.to;
      dealt = (one.dealt, rest.dealt);
      made = λ told.
          ap (λ (rows : List Row). rows ∷ rest.rows) (one.made (All-head IsToldTurn t turns told))
          ∙ ap (λ (more : List (List Row)). made_in t ∷ more) (rest.made (All-tail IsToldTurn t turns told));
      bytes = (one.bytes, rest.bytes);
    }

    pub senders : (routes : List F) (turns : List (Turn (ScatterValue F P))) (now : List HandValue) (through : List P) → AllZip IsFreshTurn routes turns → AllThree IsEndedTurn turns now through → AreSenders routes turns through
    senders [] [] [] [] fresh end = record { rows = []; to = []; dealt = tt; made = λ told. refl; bytes = tt }
    senders [] [] [] (q ∷ through) fresh end = absurd end
    senders [] [] (b ∷ now) through fresh end = absurd end
    senders [] (t ∷ turns) now through fresh end = absurd fresh
    senders (route ∷ routes) [] now through fresh end = absurd fresh
    senders (route ∷ routes) (t ∷ turns) [] through fresh end = absurd end
    senders (route ∷ routes) (t ∷ turns) (b ∷ now) [] fresh end = absurd end
    senders (route ∷ routes) (t ∷ turns) (b ∷ now) (q ∷ through) fresh end =
        sender_more route t q routes turns through (sender_one route t b q fresh.0 end.0) (senders routes turns now through fresh.1 end.1)

    -- each scatter may be finished with its hand
    pub all_served : (turns : List (Turn (ScatterValue F P))) (now : List HandValue) → AllZip (IsServed g) turns now → AllZip (serving.IsServed p) (map sink_after turns) now
    all_served [] [] all = tt
    all_served [] (b ∷ now) all = absurd all
    all_served (t ∷ turns) [] all = absurd all
    all_served (t ∷ turns) (b ∷ now) all = (served t.took b all.0.serves, all_served turns now all.1)

    abbrev AreSame : HandValue → HandValue → Type 0
    AreSame a b = b.permits ≡ a.permits

    -- each hand has its permits again once its scatter is finished
    pub permits_back : ((s t : ScatterValue F P) (a b : HandValue) → g.held t b ≡ g.held s a → b.permits + open_frames t.frames ≡ a.permits + open_frames s.frames)
        → (routes : List F) (turns : List (Turn (ScatterValue F P))) (now end : List HandValue) → AllZip IsFreshTurn routes turns → AllZip (IsServed g) turns now → AllThree IsFreed (map sink_after turns) now end
        → AllZip AreSame (map hand_in turns) end
    permits_back held routes [] [] [] fresh all freed = tt
    permits_back held routes [] [] (c ∷ end) fresh all freed = absurd freed
    permits_back held routes [] (b ∷ now) end fresh all freed = absurd all
    permits_back held routes (t ∷ turns) [] end fresh all freed = absurd all
    permits_back held routes (t ∷ turns) (b ∷ now) [] fresh all freed = absurd freed
    permits_back held [] (t ∷ turns) (b ∷ now) (c ∷ end) fresh all freed = absurd fresh
    permits_back held (route ∷ routes) (t ∷ turns) (b ∷ now) (c ∷ end) fresh all freed =
        let same = held t.sink t.took t.hand b all.0.held in
        let closed = fresh.0.closed in
        let back = freed.0 in
        (omega (arith, same, closed, back), permits_back held routes turns now end fresh.1 all.1 freed.1)

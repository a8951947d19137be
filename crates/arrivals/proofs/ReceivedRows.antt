-- Rows that are received, one step after another.
use Rattle.std.proofs.Common.{◌≡◌, ◌+◌, ◌<◌, true, false, List, [], ◌∷◌, ◌++◌, length, refl, sym, ap, subst, ◌∙◌, arith}
use Rattle.std.proofs.Common.{append_assoc}
use Rattle.row_defs.specs.declared.kind.Kind.{Kind}
use Rattle.row_defs.specs.Rows.{Row}
use Rattle.block_pool.specs.Handles.{PoolName, HandValue, AreOfPool}
use Rattle.dia_file.specs.Encoding.{spelled}
use Rattle.dia_file.proofs.WriterLemmas.{row_some}
use Rattle.lop_chain.specs.Rows.{Kinds}
use Rattle.lop_chain.specs.declared.sink.RowSink.{Ghosts}
use Rattle.mix_stream.specs.Reading.{Reading, IsDone, blocks_of, pins}
use Rattle.scatter.specs.declared.feed_err.FeedErr.{FeedErr}
use Rattle.scatter.specs.declared.feed_err.FeedErr.TheVariants.{Sink, Disk, Damaged, NoMemory}
use Rattle.scatter.specs.Fitting.{RestsOnHands}
use Rattle.scatter.specs.Sends.{HasLaws}
use Rattle.arrivals.specs.Boxes.{HasLeft, bytes_left}
use Rattle.arrivals.specs.Steps.{CanServe, IsPushed, IsAtEnd, IsUnread, NotPushed}
use Rattle.arrivals.specs.Receives.{GivesRows, IsReceived, Unreceived, HoldsStill, CanReceive, Goes, TookAll}
use Rattle.arrivals.specs.ReceiveLaws.{unreceived_from}
use Rattle.arrivals.proofs.Totals.{fewer_left}
use Rattle.arrivals.proofs.FirstRows.{gives_none, gives_start, gives_one, gives_more, all_rows, undamaged}

-- a row is at least one byte
pub row_fewer : {S R : Type 0} (g : Ghosts S HandValue R) (r q : Reading) (s t : S) (a b : HandValue) → 0 < length r.kinds → IsPushed g r s a q t b → bytes_left q < bytes_left r
row_fewer g r q s t a b some p =
    let next = p.first.next in
    let one = row_some r.kinds (spelled p.row) p.row some next.is_row in
    let all = fewer_left a.pool q.from p.row r q next in
    omega (arith, one, all)

module _ {S R : Type 0} (g : Ghosts S HandValue R) (laws : HasLaws g) where
  -- the sink as it was
  received_none : (pool : PoolName) (r q : Reading) (s t : S) → t ≡ s → GivesRows pool r.kinds (HasLeft r) [] q → g.is_shut s ≡ false → IsReceived g pool r.kinds (HasLeft r) s q t
  received_none pool r q s t same gives is_open = record {
    rows = [];
    gives = gives;
    took = subst (λ u. g.took s [] u) (sym same) (laws.took_none s);
    accepts = λ kinds k. subst (λ u. g.accepts u kinds) (sym same) k;
    accepted = λ kinds k. subst (λ u. g.accepts u kinds) same k;
    is_open = subst (λ u. g.is_shut u ≡ false) (sym same) is_open;
  }

  pub received_start : (pool : PoolName) (r : Reading) (s : S) → g.is_shut s ≡ false → IsReceived g pool r.kinds (HasLeft r) s r s
  received_start pool r s is_open = received_none pool r r s s refl (gives_start pool r) is_open

  pub received_end : (r q : Reading) (s t : S) (a b : HandValue) → q.kinds ≡ r.kinds → IsAtEnd r s a q t b → g.is_shut s ≡ false → IsReceived g a.pool r.kinds (HasLeft r) s q t
  received_end r q s t a b kinds p is_open = received_none a.pool r q s t p.sink (gives_none a.pool r q kinds p.same) is_open

  unread : (r q : Reading) (s t : S) (a b : HandValue) → q.kinds ≡ r.kinds → IsUnread r s a q t b → g.is_shut s ≡ false → IsReceived g a.pool r.kinds (HasLeft r) s q t
  unread r q s t a b kinds p is_open = received_none a.pool r q s t p.sink (gives_none a.pool r q kinds p.same) is_open

  pub received_one : (r q : Reading) (s t : S) (a b : HandValue) → 0 < length r.kinds → q.kinds ≡ r.kinds → IsPushed g r s a q t b
      → ((kinds : Kinds) → g.accepts s kinds → g.accepts t kinds) → ((kinds : Kinds) → g.accepts t kinds → g.accepts s kinds) → g.is_shut t ≡ false → IsReceived g a.pool r.kinds (HasLeft r) s q t
  received_one r q s t a b some kinds p accepts accepted is_open = record {
    rows = p.row ∷ [];
    gives = gives_one r q a p.row some kinds p.first;
    took = p.took;
    accepts = accepts;
    accepted = accepted;
    is_open = is_open;
  }

  module _ (kinds : List Kind) (held : List (List Row) → Type 0) where
    pub received_more : (pool : PoolName) (r q : Reading) (s t u : S) → r.kinds ≡ kinds → IsReceived g pool kinds held s r t → IsReceived g pool r.kinds (HasLeft r) t q u → IsReceived g pool kinds held s q u
    received_more pool r q s t u same p then = record {
      rows = p.rows ++ then.rows;
      gives = gives_more pool kinds held r q p.rows then.rows same p.gives then.gives;
      took = laws.took_more s t u p.rows then.rows p.took then.took;
      accepts = λ kinds k. then.accepts kinds (p.accepts kinds k);
      accepted = λ kinds k. p.accepted kinds (then.accepted kinds k);
      is_open = then.is_open;
    }

    -- a fault after some rows were received, from the same hand
    pub unreceived_on : (r q : Reading) (s t u : S) (a c : HandValue) (e : FeedErr R) → r.kinds ≡ kinds → IsReceived g a.pool kinds held s r t → Unreceived g r.kinds (HasLeft r) t a e q u c
        → Unreceived g kinds held s a e q u c
    unreceived_on r q s t u a c (Sink e) same p then = record {
      rows = p.rows ++ then.rows;
      next = then.next;
      at = then.at;
      gives = subst (λ rows. GivesRows a.pool kinds held rows q) (sym (append_assoc p.rows then.rows (then.next ∷ []))) (gives_more a.pool kinds held r q p.rows (then.rows ++ then.next ∷ []) same p.gives then.gives);
      took = laws.took_more s t then.at p.rows then.rows p.took then.took;
      refused = then.refused;
      shut = then.shut;
    }
    unreceived_on r q s t u a c (Disk count) same p then = (received_more a.pool r q s t u same p then.0, then.1)
    unreceived_on r q s t u a c Damaged same p then = (
      received_more a.pool r q s t u same p then.0,
      λ tells lists holds.
          let come = p.gives.told tells lists holds in
          then.1 tells come.rest come.left_is,
    )
    unreceived_on r q s t u a c NoMemory same p then = received_more a.pool r q s t u same p then

    -- nothing is left: these were all rows
    pub took_all : (pool : PoolName) (q : Reading) (s t : S) → 0 < length q.kinds → IsReceived g pool kinds held s q t → IsDone q → TookAll g pool kinds held s t
    took_all pool q s t some p none = record {
      rows = p.rows;
      all = all_rows pool kinds held q p.rows some p.gives none;
      took = p.took;
      accepts = p.accepts;
      accepted = p.accepted;
      is_open = p.is_open;
    }

  pub unreceived_one : (r q : Reading) (s t : S) (a b : HandValue) (e : FeedErr R) → 0 < length r.kinds → q.kinds ≡ r.kinds → g.is_shut s ≡ false → NotPushed g r s a e q t b
      → Unreceived g r.kinds (HasLeft r) s a e q t b
  unreceived_one r q s t a b (Sink e) some kinds is_open p = record {
    rows = [];
    next = p.row;
    at = s;
    gives = gives_one r q a p.row some kinds p.first;
    took = laws.took_none s;
    refused = p.refused;
    shut = p.shut;
  }
  unreceived_one r q s t a b (Disk count) some kinds is_open p = (unread r q s t a b kinds p.0 is_open, p.1)
  unreceived_one r q s t a b Damaged some kinds is_open p = (unread r q s t a b kinds p.0 is_open, undamaged a.pool r.kinds (HasLeft r) r [] (gives_start a.pool r) p.1)
  unreceived_one r q s t a b NoMemory some kinds is_open p = unread r q s t a b kinds p is_open

  -- and from a hand before
  pub unreceived_more : RestsOnHands g → (r0 r q : Reading) (s t u : S) (a b c : HandValue) (e : FeedErr R) → Goes g r0 s a r t b → IsReceived g a.pool r0.kinds (HasLeft r0) s r t
      → Unreceived g r.kinds (HasLeft r) t b e q u c → Unreceived g r0.kinds (HasLeft r0) s a e q u c
  unreceived_more rests r0 r q s t u a b c e goes p then =
      unreceived_on r0.kinds (HasLeft r0) r q s t u a c e goes.kinds p (unreceived_from g r.kinds (HasLeft r) laws.refused_from q t u a b c e (rests.follows a b goes.follows) goes.follows then)

  -- what a step leaves of the three
  never : (t : S) → g.is_shut t ≡ true → g.is_shut t ≡ false → ⊥
  never t p q = cc

  pub still_held : RestsOnHands g → (r q : Reading) (s t : S) (a b : HandValue) → t ≡ s → b.permits + pins q ≡ a.permits + pins r → HoldsStill g r s a q t b
  still_held rests r q s t a b same permits =
      let one : g.held t b ≡ g.held s b = ap (λ u. g.held u b) same in
      let two = rests.held s a b in
      omega (arith, one, two, permits)

  pub refused_holds : RestsOnHands g → (r q : Reading) (s t : S) (a b : HandValue) (e : FeedErr R) → NotPushed g r s a e q t b → g.is_shut t ≡ false → HoldsStill g r s a q t b
  refused_holds rests r q s t a b (Sink e) p is_open = absurd (never t p.shut is_open)
  refused_holds rests r q s t a b (Disk count) p is_open = still_held rests r q s t a b p.0.sink p.0.permits
  refused_holds rests r q s t a b Damaged p is_open = still_held rests r q s t a b p.0.sink p.0.permits
  refused_holds rests r q s t a b NoMemory p is_open = still_held rests r q s t a b p.sink p.permits

  -- the hand serves on, where a block is pinned ..
  pub serves_on : RestsOnHands g → (q : Reading) (t : S) (b : HandValue) → pins q ≡ 1 → g.serves t b → CanServe g q t b
  serves_on rests q t b one serves = record {
    serves = λ c same more. rests.serves t b c same (omega (arith, one, more)) serves;
    permit = omega (arith, one);
  }

  -- .. and at the end
  pub serves_end : (r q : Reading) (s t : S) (a b : HandValue) → CanServe g r s a → b.pool ≡ a.pool → IsAtEnd r s a q t b → CanServe g q t b
  serves_end r q s t a b can pool p = record {
    serves = λ c same more. subst (λ u. g.serves u c) (sym p.sink) (can.serves c (same ∙ pool) (let e = p.permits in omega (arith, e, more)));
    permit = let e = p.permits in let some = can.permit in omega (arith, e, some);
  }

  pub can_go_on : (r q : Reading) (s t : S) (a b : HandValue) → CanReceive g r s a → q.kinds ≡ r.kinds → AreOfPool b.pool (blocks_of q)
      → ((kinds : Kinds) → g.accepts s kinds → g.accepts t kinds) → CanServe g q t b → g.is_shut t ≡ false → CanReceive g q t b
  can_go_on r q s t a b p kinds own accepts can is_open = record {
    some = subst (λ (ks : List Kind). 0 < length ks) (sym kinds) p.some;
    accepts = subst (g.accepts t) (sym kinds) (accepts r.kinds p.accepts);
    own = own;
    rests = p.rests;
    can = can;
    is_open = is_open;
  }

-- One more row is taken.
use Rattle.std.proofs.Common.{◌≡◌, ◌≢◌, ℕ, ◌+◌, ◌<◌, ◌≤◌, ◌^◌, List, [], ◌∷◌, ◌++◌, length, Bool, true, false, ◌==◌, Option, None, get_or, refl, sym, ap, ap₂, subst, ◌∙◌, append_assoc, eq-eqb, arith}
use Rattle.std.proofs.lemmas.Bool.{eqb-true}
use Rattle.std.specs.List.{AllByRecursion}
use Rattle.row_defs.specs.Rows.{Row}
use Rattle.block_pool.specs.Handles.{PoolName, BlockValue, FrameValue, HandValue, Follows}
use Rattle.multiplexer.specs.Sending.{IsSentFrom}
use Rattle.dia_file.specs.Encoding.{spelled}
use Rattle.dia_file.specs.Frames.{frame_bytes}
use Rattle.exchange.specs.Dealing.{sent_to, joined, bytes_to, open_frames, AreOpenIn, SentMore, IsDealt}
use Rattle.exchange.specs.Deals.{Dealt}
use Rattle.exchange.specs.Limits.{most_dealt, most_packets}
use Rattle.row_defs.specs.declared.kind.Kind.{Kind}
use Rattle.row_defs.specs.Rows.{kinds_of}
use Rattle.dia_item.specs.declared.row_ref.RowRef.{RowRef}
use Rattle.dia_item.specs.Lent.{row_in_ref}
use Rattle.multiplexer.specs.declared.post.Post.{Ghosts}
use Rattle.exchange.specs.Serving.{ScatterValue, Asked, Answered, answers_of, Accepts, IsServed, SentSince, Serves}
use Rattle.exchange.proofs.OneRow.{dealt_one}

-- what a row on its way to a worker adds
pub row_dealt :
    (pool : PoolName) (answers : Row → ℕ → ℕ → Type 0) (n to : ℕ) (row : Row) (bytes : List ℕ)
    (sent now : List (List BlockValue)) (fs gs : List (Option FrameValue))
    → answers row n to → bytes ≡ spelled row → IsDealt pool sent to (get_or fs to None) bytes now (get_or gs to None)
    → ((w : ℕ) → w ≢ to → get_or gs w None ≡ get_or fs w None) → Dealt answers n (bytes_to sent fs) (row ∷ []) (n + 1) (bytes_to now gs)
row_dealt pool answers n to row bytes sent now fs gs routed is d others =
    dealt_one answers n (n + 1) to row (bytes_to sent fs) (bytes_to now gs) routed refl
    (d.parts ∙ ap (λ (xs : List ℕ). bytes_to sent fs to ++ xs) is)
    (λ w other. ap₂ (λ (a : List BlockValue) (f : Option FrameValue). joined a ++ frame_bytes f) (d.others w other) (others w other))

pub good-both : (pool : PoolName) (a b : List BlockValue) → AllByRecursion (IsSentFrom pool) a → AllByRecursion (IsSentFrom pool) b → AllByRecursion (IsSentFrom pool) (a ++ b)
good-both pool [] b p q = q
good-both pool (x ∷ a) b p q = (p.0, good-both pool a b p.1 q)

-- what was sent since the scatter was made, and more
sent_more :
    (d e : HandValue) (begun sent now : List BlockValue) (taken : ℕ) → e.pool ≡ d.pool → SentSince d begun sent taken → SentMore d.pool sent now → length now ≤ length sent + most_packets
    → SentSince e begun now (taken + 1)
sent_more d e begun sent now taken same s m few =
    let P : PoolName → Type 0 = λ pool. AllByRecursion (IsSentFrom pool) (s.more.more ++ m.more) in
    record {
      more = record {
        more = s.more.more ++ m.more;
        are = m.are ∙ ap (λ (xs : List BlockValue). xs ++ m.more) s.more.are ∙ append_assoc begun s.more.more m.more;
        good = subst P (sym same) (good-both d.pool s.more.more m.more s.more.good m.good);
      };
      begun_few = s.begun_few;
      few = omega (arith, s.few, few);
    }

sent_still : (d e : HandValue) (begun sent now : List BlockValue) (taken : ℕ) → e.pool ≡ d.pool → SentSince d begun sent taken → now ≡ sent → SentSince e begun now (taken + 1)
sent_still d e begun sent now taken same s is =
    let P : PoolName → Type 0 = λ pool. AllByRecursion (IsSentFrom pool) s.more.more in
    record {
      more = record { more = s.more.more; are = is ∙ s.more.are; good = subst P (sym same) s.more.good };
      begun_few = s.begun_few;
      few = omega (arith, s.few, ap length is);
    }

-- the hand serves the scatter still
pub serves_still :
    (d e : HandValue) (fs gs : List (Option FrameValue)) (begun sent now : List (List BlockValue)) (workers many taken to : ℕ) (bytes : List ℕ)
    → Serves d fs begun sent workers taken → taken ≢ most_dealt → IsDealt d.pool sent to (get_or fs to None) bytes now (get_or gs to None)
    → length gs ≡ length fs → many ≡ workers → AreOpenIn d.pool gs → e.permits + open_frames gs ≡ d.permits + open_frames fs → Follows d e
    → Serves e gs begun now many (taken + 1)
serves_still d e fs gs begun sent now workers many taken to bytes s less dealt len same own permits follows =
    let P : PoolName → Type 0 = λ pool. AreOpenIn pool gs in
    record {
      own = subst P (sym follows.pool) own;
      block = omega (arith, s.block, ap (λ (pool : PoolName). pool.opening.block) follows.pool);
      room = omega (arith, s.room, permits, same);
      len = len ∙ s.len ∙ sym same;
      lanes = dealt.lanes ∙ s.lanes ∙ sym same;
      since = λ w. at w (w == to) refl;
      most = omega (arith, s.most, less);
      few_workers = omega (arith, s.few_workers, same);
    }
  where
    at : (w : ℕ) (b : Bool) → w == to ≡ b → SentSince e (sent_to begun w) (sent_to now w) (taken + 1)
    at w true is =
        let here : w ≡ to = eqb-true w to is in
        let Q : ℕ → Type 0 = λ v. SentSince e (sent_to begun v) (sent_to now v) (taken + 1) in
        subst Q (sym here) (sent_more d e (sent_to begun to) (sent_to sent to) (sent_to now to) taken follows.pool (s.since to) dealt.more dealt.few)
    at w false is = sent_still d e (sent_to begun w) (sent_to sent w) (sent_to now w) taken follows.pool (s.since w) (dealt.others w (λ here. absurd (let t = eq-eqb w to here in cc (t, is))))

-- few enough packets were sent for one row more
pub room_for_one : (d : HandValue) (fs : List (Option FrameValue)) (begun sent : List (List BlockValue)) (workers taken to : ℕ) → Serves d fs begun sent workers taken → length (sent_to sent to) + most_packets < 2 ^ 56
room_for_one d fs begun sent workers taken to s = let at = s.since to in omega (arith, at.begun_few, at.few, s.most)

-- over the scatter as contracts see it ---------------------------------------------------------------------------------

-- the route answers a worker
pub goes_to_one :
    {F P : Type 0} (pre : Asked F) (post : Answered F) (p : Ghosts P) (s v : ScatterValue F P) (kinds : List Kind) (r : RowRef) (w : ℕ)
    → s ≡ v → Accepts pre post p s kinds → kinds_of (row_in_ref r) ≡ kinds → s.taken ≤ most_dealt → v.taken ≢ most_dealt → post v.route r v.taken w → w < p.workers v.post
goes_to_one {F} {P} pre post p s v kinds r w same h is most less answered =
    let Q : ScatterValue F P → Type 0 = λ x. Accepts pre post p x kinds × (x.taken ≤ most_dealt) in
    let here = subst Q same (h, most) in
    (here.0.1 r v.taken is (omega (arith, here.1, less))).1 w answered

pub took_one :
    {F P : Type 0} (post : Answered F) (p : Ghosts P) (s v : ScatterValue F P) (pool : PoolName) (r : RowRef) (to : ℕ) (bytes : List ℕ) (now : P) (gs : List (Option FrameValue))
    → s ≡ v → post v.route r v.taken to → bytes ≡ spelled (row_in_ref r) → IsDealt pool (p.sent v.post) to (get_or v.frames to None) bytes (p.sent now) (get_or gs to None)
    → ((w : ℕ) → w ≢ to → get_or gs w None ≡ get_or v.frames w None)
    → Dealt (answers_of post s.route) s.taken (bytes_to (p.sent s.post) s.frames) (row_in_ref r ∷ []) (v.taken + 1) (bytes_to (p.sent now) gs) × (v.route ≡ s.route)
took_one {F} {P} post p s v pool r to bytes now gs same answered is dealt others =
    let Q : ScatterValue F P → Type 0 = λ x.
    Dealt (answers_of post x.route) x.taken (bytes_to (p.sent x.post) x.frames) (row_in_ref r ∷ []) (v.taken + 1) (bytes_to (p.sent now) gs) × (v.route ≡ x.route) in
    subst Q (sym same) (row_dealt pool (answers_of post v.route) v.taken to (row_in_ref r) bytes (p.sent v.post) (p.sent now) v.frames gs (r, refl, answered) is dealt others, refl)

pub accepts_still :
    {F : Type 0} (pre : Asked F) (post : Answered F) (ks ls : List Kind) (f h : F) (m n : ℕ) (kinds : List Kind) → ls ≡ ks → h ≡ f → n ≡ m
    → (ks ≡ kinds) × ((r : RowRef) (k : ℕ) → kinds_of (row_in_ref r) ≡ kinds → k < most_dealt → pre f r k × ((w : ℕ) → post f r k w → w < m))
    → (ls ≡ kinds) × ((r : RowRef) (k : ℕ) → kinds_of (row_in_ref r) ≡ kinds → k < most_dealt → pre h r k × ((w : ℕ) → post h r k w → w < n))
accepts_still {F} pre post ks ls f h m n kinds same route workers q =
    let Q : F → Type 0 = λ x. (r : RowRef) (k : ℕ) → kinds_of (row_in_ref r) ≡ kinds → k < most_dealt → pre x r k × ((w : ℕ) → post x r k w → w < n) in
    (same ∙ q.0, subst Q (sym route) (λ r k is below. let t = q.1 r k is below in (t.0, λ w answered. omega (arith, t.1 w answered, workers))))

pub serves_one_more :
    {F P : Type 0} (p : Ghosts P) (s v : ScatterValue F P) (d e : HandValue) (to : ℕ) (bytes : List ℕ) (now : P) (gs : List (Option FrameValue))
    → s ≡ v → IsServed p s d → v.taken ≢ most_dealt → IsDealt d.pool (p.sent v.post) to (get_or v.frames to None) bytes (p.sent now) (get_or gs to None)
    → length gs ≡ length v.frames → p.workers now ≡ p.workers v.post → AreOpenIn d.pool gs → e.permits + open_frames gs ≡ d.permits + open_frames v.frames → Follows d e
    → Serves e gs (p.sent v.began) (p.sent now) (p.workers now) (v.taken + 1)
serves_one_more {F} {P} p s v d e to bytes now gs same h less dealt len workers own permits follows =
    let Q : ScatterValue F P → Type 0 = λ x. IsServed p x d in
    serves_still d e v.frames gs (p.sent v.began) (p.sent v.post) (p.sent now) (p.workers v.post) (p.workers now) v.taken to bytes (subst Q same h) less dealt len workers own permits follows

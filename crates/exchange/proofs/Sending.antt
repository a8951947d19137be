-- Frames sent so far.
use Rattle.std.proofs.Common.{◌≡◌, ◌≢◌, ℕ, zero, suc, ◌+◌, ◌<◌, ◌≤◌, ◌^◌, List, [], ◌∷◌, ◌++◌, length, Bool, true, false, nat_lt, Option, None, Some, get_or, refl, sym, ap, subst, ◌∙◌, append_assoc, append-nil, length-append, below_more, arith}
use Rattle.std.proofs.lemmas.List.{get_or-set_other, length-set}
use Rattle.std.proofs.lemmas.Bool.{ltb-true, ltb-false}
use lib.ListN.{replicate, length-replicate}
use Rattle.block_pool.specs.Handles.{PoolName, BlockValue, FrameValue, HandValue, Follows}
use Rattle.block_pool.specs.Follows.{follows_refl, follows_trans}
use Rattle.dia_file.specs.Frames.{frames}
use Rattle.exchange.specs.Dealing.{sent_to, joined, block_of, with_frame, open_frames, IsOpenIn, AreOpenIn, SentMore, IsFinished}
use Rattle.exchange.specs.Serving.{Serves}
use Rattle.block_pool.specs.declared.pool.TheConstants.{LEAST_BLOCK}
use Rattle.exchange.specs.Limits.{most_begun}
use Rattle.exchange.proofs.Counting.{open_cons}
use Rattle.exchange.proofs.Putting.{frame_sent, joined-append}
use Rattle.exchange.proofs.Taking.{good-both}

-- what is written for the first workers was sent, and nothing else
pub record SentSoFar (first : HandValue) (sent : List (List BlockValue)) (fs : List (Option FrameValue)) (hand : HandValue) (now : List (List BlockValue)) (gs : List (Option FrameValue)) (to : ℕ) : Type 0 where
  pub done : (w : ℕ) → w < to → IsFinished first.pool (sent_to sent w) (get_or fs w None) (sent_to now w)
  pub none : (w : ℕ) → w < to → get_or gs w None ≡ None
  pub same_sent : (w : ℕ) → to ≤ w → sent_to now w ≡ sent_to sent w
  pub same_frames : (w : ℕ) → to ≤ w → get_or gs w None ≡ get_or fs w None
  pub lanes : length now ≡ length sent
  pub len : length gs ≡ length fs
  pub own : AreOpenIn first.pool gs
  pub permits : hand.permits + open_frames gs ≡ first.permits + open_frames fs
  pub follows : Follows first hand

pub sent_none : (first : HandValue) (sent : List (List BlockValue)) (fs : List (Option FrameValue)) → AreOpenIn first.pool fs → SentSoFar first sent fs first sent fs 0
sent_none first sent fs own = record {
  done = λ w below. absurd (omega (arith, below));
  none = λ w below. absurd (omega (arith, below));
  same_sent = λ w h. refl;
  same_frames = λ w h. refl;
  lanes = refl;
  len = refl;
  own = own;
  permits = refl;
  follows = follows_refl first;
}

-- the frames that are written are of the pool, one by one
pub open_at : (pool : PoolName) (fs : List (Option FrameValue)) (w : ℕ) → AreOpenIn pool fs → IsOpenIn pool (get_or fs w None)
open_at pool [] w all = tt
open_at pool (f ∷ fs) zero all = all.0
open_at pool (f ∷ fs) (suc w) all = open_at pool fs w all.1

finished :
    (pool : PoolName) (sent : List (List BlockValue)) (to : ℕ) (f : Option FrameValue) → to < length sent → IsOpenIn pool f
    → IsFinished pool (sent_to sent to) f (sent_to (with_frame sent to f) to)
finished pool sent to None within is = record {
  bytes = sym (append-nil (joined (sent_to sent to)));
  more = record { more = []; are = sym (append-nil (sent_to sent to)); good = tt };
  few = omega arith;
}
finished pool sent to (Some f) within is =
    let here = frame_sent sent to (block_of f) within in
    record {
      bytes = ap joined here ∙ joined-append (sent_to sent to) (block_of f ∷ []) ∙ ap (λ (xs : List ℕ). joined (sent_to sent to) ++ xs) (append-nil f.bytes);
      more = record { more = block_of f ∷ []; are = here; good = (is, tt) };
      few = omega (arith, ap length here, length-append (sent_to sent to) (block_of f ∷ []));
    }

other_lanes : (sent : List (List BlockValue)) (to : ℕ) (f : Option FrameValue) (w : ℕ) → w ≢ to → sent_to (with_frame sent to f) w ≡ sent_to sent w
other_lanes sent to None w other = refl
other_lanes sent to (Some f) w other = get_or-set_other sent to w (sent_to sent to ++ block_of f ∷ []) [] other

same_lanes : (sent : List (List BlockValue)) (to : ℕ) (f : Option FrameValue) → length (with_frame sent to f) ≡ length sent
same_lanes sent to None = refl
same_lanes sent to (Some f) = length-set sent to (sent_to sent to ++ block_of f ∷ [])

pub sent_one :
    (first : HandValue) (sent : List (List BlockValue)) (fs : List (Option FrameValue)) (hand next : HandValue) (now later : List (List BlockValue)) (gs hs : List (Option FrameValue)) (to : ℕ)
    → SentSoFar first sent fs hand now gs to → to < length sent → later ≡ with_frame now to (get_or gs to None) → get_or hs to None ≡ None
    → ((w : ℕ) → w ≢ to → get_or hs w None ≡ get_or gs w None) → length hs ≡ length gs → AreOpenIn hand.pool hs
    → next.permits + open_frames hs ≡ hand.permits + open_frames gs → Follows hand next → SentSoFar first sent fs next later hs (to + 1)
sent_one first sent fs hand next now later gs hs to s within is none others len own permits follows =
    let f : Option FrameValue = get_or gs to None in
    let P : PoolName → Type 0 = λ pool. AreOpenIn pool hs in
    let D : ℕ → Type 0 = λ w. IsFinished first.pool (sent_to sent w) (get_or fs w None) (sent_to later w) in
    let N : ℕ → Type 0 = λ w. get_or hs w None ≡ None in
    let there : to < length now = omega (arith, within, s.lanes) in
    let here : IsFinished first.pool (sent_to now to) f (sent_to (with_frame now to f) to) = finished first.pool now to f there (open_at first.pool gs to s.own) in
    let A : List BlockValue → Type 0 = λ a. IsFinished first.pool a f (sent_to (with_frame now to f) to) in
    let B : Option FrameValue → Type 0 = λ g. IsFinished first.pool (sent_to sent to) g (sent_to (with_frame now to f) to) in
    let C : List (List BlockValue) → Type 0 = λ l. IsFinished first.pool (sent_to sent to) (get_or fs to None) (sent_to l to) in
    let moved : IsFinished first.pool (sent_to sent to) (get_or fs to None) (sent_to later to) =
    subst C (sym is) (subst B (s.same_frames to (omega arith)) (subst A (s.same_sent to (omega arith)) here)) in
    let same : (w : ℕ) → w ≢ to → sent_to later w ≡ sent_to now w = λ w other. ap (λ (l : List (List BlockValue)). sent_to l w) is ∙ other_lanes now to f w other in
    record {
      done = below_more D to (λ k below. subst (λ (l : List BlockValue). IsFinished first.pool (sent_to sent k) (get_or fs k None) l) (sym (same k (λ e. absurd (omega (arith, e, below))))) (s.done k below)) moved;
      none = below_more N to (λ k below. others k (λ e. absurd (omega (arith, e, below))) ∙ s.none k below) none;
      same_sent = λ w h. same w (λ e. absurd (omega (arith, e, h))) ∙ s.same_sent w (omega (arith, h));
      same_frames = λ w h. others w (λ e. absurd (omega (arith, e, h))) ∙ s.same_frames w (omega (arith, h));
      lanes = ap length is ∙ same_lanes now to f ∙ s.lanes;
      len = len ∙ s.len;
      own = subst P s.follows.pool own;
      permits = permits ∙ s.permits;
      follows = follows_trans first hand next s.follows follows;
    }

none_open : (gs : List (Option FrameValue)) → ((w : ℕ) → w < length gs → get_or gs w None ≡ None) → open_frames gs ≡ 0
none_open [] h = refl
none_open (f ∷ fs) h =
    let here : frames f ≡ 0 = ap frames (h 0 (omega arith)) in
    omega (arith, open_cons f fs, here, none_open fs (λ w below. h (suc w) (omega (arith, below))))

beyond : (fs : List (Option FrameValue)) (w : ℕ) → length fs ≤ w → get_or fs w None ≡ None
beyond [] w h = refl
beyond (f ∷ fs) zero h = absurd (omega (arith, h))
beyond (f ∷ fs) (suc w) h = beyond fs w (omega (arith, h))

-- all of it was sent
pub all_sent :
    (first : HandValue) (sent : List (List BlockValue)) (fs : List (Option FrameValue)) (hand : HandValue) (now : List (List BlockValue)) (gs : List (Option FrameValue)) (to : ℕ)
    → SentSoFar first sent fs hand now gs to → length fs ≤ to → (w : ℕ) → IsFinished first.pool (sent_to sent w) (get_or fs w None) (sent_to now w)
all_sent first sent fs hand now gs to s whole w = at (nat_lt w to) refl
  where
    at : (b : Bool) → nat_lt w to ≡ b → IsFinished first.pool (sent_to sent w) (get_or fs w None) (sent_to now w)
    at true e = s.done w (ltb-true w to e)
    at false e =
        let above : to ≤ w = ltb-false w to e in
        let F : Option FrameValue → Type 0 = λ f. IsFinished first.pool (sent_to sent w) f (sent_to now w) in
        let L : List BlockValue → Type 0 = λ l. IsFinished first.pool (sent_to sent w) None l in
        subst F (sym (beyond fs w (omega (arith, above, whole)))) (subst L (sym (s.same_sent w above)) (record {
          bytes = sym (append-nil (joined (sent_to sent w)));
          more = record { more = []; are = sym (append-nil (sent_to sent w)); good = tt };
          few = omega arith;
        }))

pub all_back :
    (first : HandValue) (sent : List (List BlockValue)) (fs : List (Option FrameValue)) (hand : HandValue) (now : List (List BlockValue)) (gs : List (Option FrameValue)) (to : ℕ)
    → SentSoFar first sent fs hand now gs to → length fs ≤ to → hand.permits ≡ first.permits + open_frames fs
all_back first sent fs hand now gs to s whole =
    let none = none_open gs (λ w below. s.none w (omega (arith, below, s.len, whole))) in omega (arith, none, s.permits)

-- since the scatter was made ------------------------------------------------------------------------------------------

pub sent_since :
    (d : HandValue) (fs : List (Option FrameValue)) (begun sent now : List (List BlockValue)) (workers taken w : ℕ)
    → Serves d fs begun sent workers taken → IsFinished d.pool (sent_to sent w) (get_or fs w None) (sent_to now w) → SentMore d.pool (sent_to begun w) (sent_to now w)
sent_since d fs begun sent now workers taken w s f =
    let m = (s.since w).more in
    record {
      more = m.more ++ f.more.more;
      are = f.more.are ∙ ap (λ (xs : List BlockValue). xs ++ f.more.more) m.are ∙ append_assoc (sent_to begun w) m.more f.more.more;
      good = good-both d.pool m.more f.more.more m.good f.more.good;
    }

pub sent_few :
    (d : HandValue) (fs : List (Option FrameValue)) (begun sent now : List (List BlockValue)) (workers taken w : ℕ)
    → Serves d fs begun sent workers taken → IsFinished d.pool (sent_to sent w) (get_or fs w None) (sent_to now w) → length (sent_to now w) ≤ length (sent_to begun w) + 2 ^ 48
sent_few d fs begun sent now workers taken w s f = let at = s.since w in omega (arith, at.few, s.most, f.few)

-- few enough packets were sent for one more
pub room_to_finish : (d : HandValue) (fs : List (Option FrameValue)) (begun sent : List (List BlockValue)) (workers taken : ℕ) → Serves d fs begun sent workers taken → (w : ℕ) → length (sent_to sent w) < 2 ^ 56
room_to_finish d fs begun sent workers taken s w = let at = s.since w in omega (arith, at.begun_few, at.few, s.most)

-- a scatter that sent nothing yet
none_written : (workers : ℕ) (d : HandValue) → AreOpenIn d.pool (replicate workers None)
none_written zero d = tt
none_written (suc n) d = (tt, none_written n d)

none_counted : (workers : ℕ) → open_frames (replicate workers None) ≡ 0
none_counted zero = refl
none_counted (suc n) = omega (arith, open_cons None (replicate n None), none_counted n)

pub serves_first :
    (d : HandValue) (fs : List (Option FrameValue)) (sent : List (List BlockValue)) (workers : ℕ) → fs ≡ replicate workers None → length sent ≡ workers
    → ((w : ℕ) → length (sent_to sent w) < most_begun) → workers < 2 ^ 32 → workers ≤ d.permits → LEAST_BLOCK ≤ d.pool.opening.block → Serves d fs sent sent workers 0
serves_first d fs sent workers none lanes few small permits block =
    let P : List (Option FrameValue) → Type 0 = λ gs. AreOpenIn d.pool gs in
    record {
      own = subst P (sym none) (none_written workers d);
      block = block;
      room = omega (arith, permits);
      len = ap length none ∙ length-replicate workers None;
      lanes = lanes;
      since = λ w. record { more = record { more = []; are = sym (append-nil (sent_to sent w)); good = tt }; begun_few = few w; few = omega arith };
      most = omega arith;
      few_workers = small;
    }

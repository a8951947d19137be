-- Hands before and after, side by side.
use Rattle.std.proofs.Common.{◌≡◌, ℕ, List, [], ◌∷◌, zero, suc, length, Option, Some, refl, ap, subst, ◌∙◌}
use Rattle.std.specs.Prelude.{All, slice_get}
use Rattle.std.specs.List.{AllZip}
use Rattle.std.proofs.lemmas.List.Elements.{All-nil, All-cons, All-head, All-tail}
use Rattle.block_pool.specs.Handles.{PoolName, HandValue, Follows}
use Rattle.block_pool.specs.Follows.{follows_refl, follows_trans}
use Rattle.dia_file.specs.Files.{FileValue}
use Rattle.scatter.specs.Stocks.{IsPartOf}
use Rattle.scatter.specs.Phases.{AllThree, pools_of}
use Rattle.scatter.specs.Clearing.{IsPartIn, IsCleared}
use Rattle.scatter.specs.SendLaws.{hit_from}
use Rattle.scatter.specs.Told.{Tells, SomeHit}

pub follow_refl : (hands : List HandValue) → AllZip Follows hands hands
follow_refl [] = tt
follow_refl (a ∷ hands) = (follows_refl a, follow_refl hands)

pub permits_refl : (hands : List HandValue) → AllZip (λ (a b : HandValue). b.permits ≡ a.permits) hands hands
permits_refl [] = tt
permits_refl (a ∷ hands) = (refl, permits_refl hands)

pub follow_trans : (hs bs cs : List HandValue) → AllZip Follows hs bs → AllZip Follows bs cs → AllZip Follows hs cs
follow_trans [] [] [] p q = tt
follow_trans (a ∷ hs) (b ∷ bs) (c ∷ cs) p q = (follows_trans a b c p.0 q.0, follow_trans hs bs cs p.1 q.1)
follow_trans [] (b ∷ bs) cs p q = absurd p
follow_trans (a ∷ hs) [] cs p q = absurd p
follow_trans [] [] (c ∷ cs) p q = absurd q
follow_trans (a ∷ hs) (b ∷ bs) [] p q = absurd q

pub permits_trans : (hs bs cs : List HandValue) → AllZip (λ (a b : HandValue). b.permits ≡ a.permits) hs bs → AllZip (λ (a b : HandValue). b.permits ≡ a.permits) bs cs
    → AllZip (λ (a b : HandValue). b.permits ≡ a.permits) hs cs
permits_trans [] [] [] p q = tt
permits_trans (a ∷ hs) (b ∷ bs) (c ∷ cs) p q = (q.0 ∙ p.0, permits_trans hs bs cs p.1 q.1)
permits_trans [] (b ∷ bs) cs p q = absurd p
permits_trans (a ∷ hs) [] cs p q = absurd p
permits_trans [] [] (c ∷ cs) p q = absurd q
permits_trans (a ∷ hs) (b ∷ bs) [] p q = absurd q

pub follow_count : (hands now : List HandValue) → AllZip Follows hands now → length now ≡ length hands
follow_count [] [] all = refl
follow_count [] (b ∷ now) all = absurd all
follow_count (a ∷ hands) [] all = absurd all
follow_count (a ∷ hands) (b ∷ now) all = ap suc (follow_count hands now all.1)

-- the parts are of the hands' pools
pub parts_own : (hands : List HandValue) (parts : List (Option FileValue)) → AllZip IsPartOf (pools_of hands) parts → AllZip IsPartIn hands parts
parts_own [] [] h = tt
parts_own (a ∷ hands) (p ∷ parts) h = (h.0, parts_own hands parts h.1)
parts_own [] (p ∷ parts) h = absurd h
parts_own (a ∷ hands) [] h = absurd h

pub cleared_follow : (parts : List (Option FileValue)) (hands now : List HandValue) → AllThree IsCleared parts hands now → AllZip Follows hands now
cleared_follow [] [] [] h = tt
cleared_follow (p ∷ parts) (a ∷ hands) (b ∷ now) h = (h.0.follows, cleared_follow parts hands now h.1)
cleared_follow _ _ _ h = absurd h

pub cleared_permits : (parts : List (Option FileValue)) (hands now : List HandValue) → AllThree IsCleared parts hands now → AllZip (λ (a b : HandValue). b.permits ≡ a.permits) hands now
cleared_permits [] [] [] h = tt
cleared_permits (p ∷ parts) (a ∷ hands) (b ∷ now) h = (h.0.permits, cleared_permits parts hands now h.1)
cleared_permits _ _ _ h = absurd h

-- what tells still does
pub all_tell : (hs bs : List HandValue) → AllZip Follows hs bs → All Tells hs → All Tells bs
all_tell [] [] all tells = All-nil Tells
all_tell [] (b ∷ bs) all tells = absurd all
all_tell (a ∷ hs) [] all tells = absurd all
all_tell (a ∷ hs) (b ∷ bs) all tells =
    All-cons Tells b bs (ap (λ (pool : PoolName). pool.opening.tells) all.0.pool ∙ All-head Tells a hs tells) (all_tell hs bs all.1 (All-tail Tells a hs tells))

-- the hand of a rank before
hand_before : (hs bs : List HandValue) (k : ℕ) (b : HandValue) → AllZip Follows hs bs → slice_get bs k ≡ Some b → (a : HandValue) × (slice_get hs k ≡ Some a) × Follows a b
hand_before [] [] k b all at = cc
hand_before [] (c ∷ bs) k b all at = absurd all
hand_before (a ∷ hs) [] k b all at = absurd all
hand_before (a ∷ hs) (c ∷ bs) zero b all at = let same : c ≡ b = cc in (a, refl, subst (λ d. Follows a d) same all.0)
hand_before (a ∷ hs) (c ∷ bs) (suc k) b all at = hand_before hs bs k b all.1 at

-- a hit after hands went on is a hit since before
pub hit_since : (hs bs cs : List HandValue) (count : ℕ) → AllZip Follows hs bs → SomeHit bs cs count → SomeHit hs cs count
hit_since hs bs cs count all h =
    let it = hand_before hs bs h.rank h.before all h.was in
    record {
      rank = h.rank;
      before = it.0;
      met = h.met;
      after = h.after;
      was = it.1;
      is = h.is;
      hit = hit_from it.0 h.before h.met count it.2 h.hit;
      later = h.later;
    }

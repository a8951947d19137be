-- Scatters that are finished one after the other.
use Rattle.std.proofs.Common.{◌≡◌, ℕ, ◌+◌, ◌≤◌, List, [], ◌∷◌, ◌++◌, length, take, inl, inr, refl, sym, ap, subst, arith, length-append}
use Rattle.std.specs.List.{AllZip}
use Rattle.std.proofs.lemmas.List.{take_all}
use Rattle.row_defs.specs.declared.kind.Kind.{Kind}
use Rattle.block_pool.specs.Handles.{HandValue, Follows}
use Rattle.multiplexer.specs.declared.post.Post.{Ghosts}
use Rattle.exchange.specs.Serving.{ScatterValue}
use Rattle.lent_step.proofs.Lists.{zip_more}
use Rattle.scatter.specs.Phases.{AllThree}
use Rattle.scatter.proofs.Making.{yielded_all}
use Rattle.scatter.proofs.Threes.{three_more}
use Rattle.link.specs.Scattering.{IsFreshScatter, IsSentOff, IsFreed, IsEnd}

-- these scatters were finished with these hands, and as many posts as there was memory for came of them
pub record AreEnded {F P : Type 0} (p : Ghosts P) (ss : List (ScatterValue F P)) (hs : List HandValue) (ps : List P) (bs : List HandValue) : Type 0 where
  pub follows : AllZip Follows hs bs
  pub few : length ps ≤ length ss
  pub sent : length ps ≡ length ss → AllThree (IsSentOff p) ss hs ps
  pub freed : length ps ≡ length ss → AllThree IsFreed ss hs bs

pub ended_none : {F P : Type 0} (p : Ghosts P) (ps : List P) (bs : List HandValue) → length ps ≡ 0 → length bs ≡ 0 → AreEnded {F = F} p [] [] ps bs
ended_none p [] [] e f = record { follows = tt; few = omega arith; sent = λ e. tt; freed = λ e. tt }
ended_none p [] (b ∷ bs) e f = absurd (omega (arith, f))
ended_none p (q ∷ ps) bs e f = absurd (omega (arith, e))

-- all were finished
pub ended_all : {F P : Type 0} (p : Ghosts P) (ys ss : List (ScatterValue F P)) (hs : List HandValue) (ps : List P) (bs : List HandValue)
    → AreEnded p ys (take (length ys) hs) ps bs → ys ≡ ss → length ss ≡ length hs → AreEnded p ss hs ps bs
ended_all p ys ss hs ps bs so is long =
    let all : take (length ys) hs ≡ hs = take_all (length ys) hs (omega (arith, long, ap length is)) in
    subst (λ (l : List _). AreEnded p l hs ps bs) is (subst (λ (l : List HandValue). AreEnded p ys l ps bs) all so)

pub ended_more :
    {F P : Type 0} (p : Ghosts P) (ss : List (ScatterValue F P)) (hs : List HandValue) (ps qs : List P) (bs : List HandValue) (s : ScatterValue F P) (a b : HandValue)
    → AreEnded p ss hs ps bs → Follows a b → IsEnd p s a ps qs b → AreEnded p (ss ++ s ∷ []) (hs ++ a ∷ []) qs (bs ++ b ∷ [])
ended_more p ss hs ps qs bs s a b so follows (inl same) =
    let long = length-append ss (s ∷ []) in
    let same_long : length qs ≡ length ps = ap length same in
    let few = so.few in
    record {
      follows = zip_more Follows hs bs a b so.follows follows;
      few = omega (arith, few, long, same_long);
      sent = λ e. absurd (omega (arith, e, few, long, same_long));
      freed = λ e. absurd (omega (arith, e, few, long, same_long));
    }
ended_more p ss hs ps qs bs s a b so follows (inr end) =
    let long = length-append ss (s ∷ []) in
    let more = length-append ps (end.post ∷ []) in
    let same_long : length qs ≡ length (ps ++ end.post ∷ []) = ap length end.items in
    let few = so.few in
    let P : List _ → Type 0 = λ (l : List _). AllThree (IsSentOff p) (ss ++ s ∷ []) (hs ++ a ∷ []) l in
    record {
      follows = zip_more Follows hs bs a b so.follows follows;
      few = omega (arith, few, long, more, same_long);
      sent = λ e. subst P (sym end.items) (three_more (IsSentOff p) ss hs ps s a end.post (so.sent (omega (arith, e, long, more, same_long))) end.sent);
      freed = λ e. three_more IsFreed ss hs bs s a b (so.freed (omega (arith, e, long, more, same_long))) end.freed;
    }

pub zip_refl : {A : Type 0} (R : A → A → Type 0) → ((x : A) → R x x) → (xs : List A) → AllZip R xs xs
zip_refl R all [] = tt
zip_refl R all (x ∷ xs) = (all x, zip_refl R all xs)

empty : {A : Type 0} (xs : List A) → length xs ≡ 0 → xs ≡ []
empty [] none = refl
empty (x ∷ xs) none = absurd (omega (arith, none))

-- all posts have their scatters
pub fresh_all : {F P : Type 0} (p : Ghosts P) (kinds : List Kind) (routes : List F) (ys posts : List P) (ss : List (ScatterValue F P)) (v w : ℕ)
    → AllThree (IsFreshScatter p kinds v) (take (length ys) routes) ys ss → ys ≡ posts → length routes ≡ length posts → v ≡ w → AllThree (IsFreshScatter p kinds w) routes posts ss
fresh_all p kinds routes ys posts ss v w so is long same =
    let all : take (length ys) routes ≡ routes = take_all (length ys) routes (omega (arith, long, ap length is)) in
    subst (λ (n : ℕ). AllThree (IsFreshScatter p kinds n) routes posts ss) same
    (subst (λ (l : List _). AllThree (IsFreshScatter p kinds v) routes l ss) is (subst (λ (l : List _). AllThree (IsFreshScatter p kinds v) l ys ss) all so))

-- an iterator that gives no more gave all
pub gave_all : {A : Type 0} (seen rest all : List A) → length rest ≡ 0 → seen ++ rest ≡ all → seen ≡ all
gave_all seen rest all none parts = yielded_all seen rest all (empty rest none) parts

-- The tasks that are live: how many, which, and which the generator picks.
use Rattle.std.proofs.Common.{◌≡◌, ℕ, suc, zero, ◌+◌, ◌-◌, ◌<◌, ◌≤◌, List, [], ◌∷◌, length, get_or, take, Bool, true, false, Option, Some, None, IfSome, IfNone, All, refl, sym, ap, subst, ◌∙◌, arith}
use Rattle.std.proofs.Math.ListN.{set, replicate}
use Rattle.std.proofs.Common.{count_by, cond}
use Rattle.std.proofs.lemmas.List.Recursion.{is_count_by}
use Rattle.std.proofs.lemmas.List.Elements.{All-nil, All-cons}
use Rattle.std.proofs.lemmas.Option.{slice_get-get_or}
use Rattle.std.specs.Prelude.{slice_get}
use Rattle.worker_step.specs.Order.{live_from}
use Rattle.worker_step.proofs.Setting.{same_here, same_else}

-- the mark of another task, and of this one
pub still : (live : List Bool) (i k : ℕ) (b : Bool) → i < length live → ¬ (k ≡ i) → get_or (set live i false) k true ≡ b → get_or live k true ≡ b
still live i k b less n is = sym (same_else live i false k true less n) ∙ is

pub not_live : (live : List Bool) (i k : ℕ) → i < length live → k ≡ i → get_or (set live i false) k true ≡ true → ⊥
not_live live i k less e is =
    let P : ℕ → Type 0 = λ j. get_or (set live i false) j true ≡ true in
    let here : get_or (set live i false) i true ≡ false = same_here live i false true less in
    let there : get_or (set live i false) i true ≡ true = subst P e is in
    cc

-- the marks at the start
pub all_marked : (n m k : ℕ) → get_or (take n (replicate m true)) k true ≡ true
all_marked zero m k = refl
all_marked (suc n) zero k = refl
all_marked (suc n) (suc m) zero = refl
all_marked (suc n) (suc m) (suc k) = all_marked n m k

-- the live ones, counted and found
same_long : (n m : ℕ) (live : List Bool) → length (live_from n live) ≡ length (live_from m live)
same_long n m [] = refl
same_long n m (true ∷ live) = ap suc (same_long (n + 1) (m + 1) live)
same_long n m (false ∷ live) = same_long (n + 1) (m + 1) live

one_more : (live : List Bool) (b : Bool) → length (live_from 0 (b ∷ live)) ≡ cond b (1 + length (live_from 0 live)) (length (live_from 0 live))
one_more live true = let e : length (live_from 1 live) ≡ length (live_from 0 live) = same_long 1 0 live in omega (arith, e)
one_more live false = same_long 1 0 live

pub live_counted : (live : List Bool) → count_by (λ b. b) live ≡ length (live_from 0 live)
live_counted live = sym (is_count_by (λ bs. length (live_from 0 bs)) (λ b. b) refl (λ b bs. one_more bs b) live)

pub none_live : (n : ℕ) (live : List Bool) → length (live_from n live) ≡ 0 → All (λ b. b ≡ false) live
none_live n [] none = All-nil (λ b. b ≡ false)
none_live n (true ∷ live) none = cc
none_live n (false ∷ live) none = All-cons (λ b. b ≡ false) false live refl (none_live (n + 1) live none)

pub live_within : (n : ℕ) (live : List Bool) (p r : ℕ) → slice_get (live_from n live) p ≡ Some r → (n ≤ r) × (r < n + length live) × (get_or live (r - n) true ≡ true)
live_within n [] p r is = cc
live_within n (true ∷ live) zero r is =
    let same : n ≡ r = cc in
    let P : ℕ → Type 0 = λ j. get_or (true ∷ live) j true ≡ true in
    (omega (arith, same), omega (arith, same), subst P {x = 0} (omega (arith, same)) refl)
live_within n (true ∷ live) (suc p) r is =
    let rest = live_within (n + 1) live p r is in
    let low : n + 1 ≤ r = rest.0 in
    let P : ℕ → Type 0 = λ j. get_or (true ∷ live) j true ≡ true in
    let step : suc (r - (n + 1)) ≡ r - n = omega (arith, low) in
    (omega (arith, low), omega (arith, rest.1), subst P step rest.2)
live_within n (false ∷ live) p r is =
    let rest = live_within (n + 1) live p r is in
    let low : n + 1 ≤ r = rest.0 in
    let P : ℕ → Type 0 = λ j. get_or (false ∷ live) j true ≡ true in
    let step : suc (r - (n + 1)) ≡ r - n = omega (arith, low) in
    (omega (arith, low), omega (arith, rest.1), subst P step rest.2)

pub some_live : (r : Option ℕ) (live : List Bool) (p : ℕ) → r ≡ slice_get (live_from 0 live) p → IfSome r (λ i. (i < length live) × (get_or live i true ≡ true))
some_live None live p is = tt
some_live (Some i) live p is =
    let at = live_within 0 live p i (sym is) in
    let P : ℕ → Type 0 = λ j. get_or live j true ≡ true in
    (omega (arith, at.1), subst P {x = i - 0} (omega arith) at.2)

pub some_picked : (r : Option ℕ) (live : List Bool) (p : ℕ) (Q : Type 0) → r ≡ slice_get (live_from 0 live) p → p < length (live_from 0 live) → IfNone r Q
some_picked (Some i) live p Q is less = tt
some_picked None live p Q is less = let some = slice_get-get_or (live_from 0 live) p 0 less in cc

-- no task has ended at the start
pub all_live : (n : ℕ) (live : List Bool) → ((k : ℕ) → get_or live k true ≡ true) → length (live_from n live) ≡ length live
all_live n [] all = refl
all_live n (true ∷ live) all = ap suc (all_live (n + 1) live (λ k. all (suc k)))
all_live n (false ∷ live) all = let here : false ≡ true = all 0 in cc

-- a step ends one task at most
pub one_fewer : (n : ℕ) (live : List Bool) (i : ℕ) → length (live_from n live) ≤ suc (length (live_from n (set live i false)))
one_fewer n [] i = omega arith
one_fewer n (true ∷ live) zero = let same : length (live_from (n + 1) live) ≤ length (live_from (n + 1) live) = omega arith in omega (arith, same)
one_fewer n (false ∷ live) zero = omega arith
one_fewer n (true ∷ live) (suc i) = let rest : length (live_from (n + 1) live) ≤ suc (length (live_from (n + 1) (set live i false))) = one_fewer (n + 1) live i in omega (arith, rest)
one_fewer n (false ∷ live) (suc i) = one_fewer (n + 1) live i

-- all have ended
pub count_none : (n : ℕ) (live : List Bool) → All (λ b. b ≡ false) live → length (live_from n live) ≡ 0
count_none n [] none = refl
count_none n (true ∷ live) none = let here = none 0 true (omega arith) in cc
count_none n (false ∷ live) none = count_none (n + 1) live (λ k d less. none (suc k) d (omega (arith, less)))

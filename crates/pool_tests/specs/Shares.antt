-- The rule of the counter that the tests share: its total is the sum of all seats' shares.
use Rattle.std.specs.Prelude.{◌≡◌, ℕ, zero, suc, ◌+◌, ◌≤◌, List, [], ◌∷◌, ◌++◌, sum, slice_set, Option, MatchOption}
use Rattle.std.proofs.Common.{sym, ◌∙◌, arith, set}
use Rattle.std.proofs.lemmas.List.Sums.{sum_by-cons, sum_by_push}
use mathlib.Core.Option.{some, some-injective, some-ne-none}
use lib.ListN.{get_elem?}
use Rattle.atomic_table.specs.Seated.{TableId}
use Rattle.atomic_table.proofs.Lists.{set_else}
use Rattle.turn_table.specs.declared.seat.Doing.{Doing}

-- what contracts see of a part of the counter
pub record Share : Type 0 where
  pub counter : TableId
  pub amount : ℕ

-- how much a token has, by what its seat knows
abbrev pub token_amount : List (Doing ℕ ℕ) → ℕ
token_amount [] = 0
token_amount (known ∷ _) = known.view

-- what an addition answers and leaves: the number found and the sum, or no answer and no change
abbrev pub IsAdded : ℕ → ℕ → ℕ → Option ℕ → Type 0
IsAdded before amount after answer =
    MatchOption answer (after ≡ before) (λ found. (found ≡ before) × (after ≡ before + amount))

-- the rule
abbrev pub IsTotal : ℕ → List ℕ → Type 0
IsTotal total shares = total ≡ sum shares

-- both parts together have what was cut
abbrev pub IsCut : ℕ → ℕ → ℕ → Type 0
IsCut share left right = left + right ≡ share

-- of a part of this counter that had so much before: the part has what was counted since as well, at most so much
abbrev pub IsCounted : TableId → ℕ → ℕ → Share × ℕ → Type 0
IsCounted counter before most done =
    (done.0.counter ≡ counter) × (done.0.amount ≡ before + done.1) × (done.1 ≤ most)

-- The two laws of the rule, and what they stand on.

pub sum-set : (shares : List ℕ) (i v w : ℕ) → get_elem? shares i ≡ some v
    → sum (set shares i w) + v ≡ sum shares + w
sum-set [] i v w at = absurd (some-ne-none v (sym at))
sum-set (x ∷ xs) zero v w at = let e : x ≡ v = some-injective x v at in
    let p = sum_by-cons (λ k. k) x xs in let q = sum_by-cons (λ k. k) w xs in omega arith
sum-set (x ∷ xs) (suc i) v w at = let h = sum-set xs i v w at in
    let p = sum_by-cons (λ k. k) x xs in let q = sum_by-cons (λ k. k) x (set xs i w) in omega arith

pub cut_is_total : (total : ℕ) (shares : List ℕ) (i share left right : ℕ) → IsTotal total shares
    → get_elem? shares i ≡ some share → IsCut share left right
    → IsTotal total (slice_set shares i left ++ right ∷ [])
cut_is_total total shares i share left right h at cut = let s = sum-set shares i share left at in
    let n = sum_by_push (λ k. k) (set shares i left) right in omega arith

pub added_is_total : (total : ℕ) (shares : List ℕ) (i j v w : ℕ) → IsTotal total shares
    → get_elem? shares i ≡ some v → get_elem? shares j ≡ some w → ¬ (j ≡ i)
    → IsTotal total (slice_set (slice_set shares i (v + w)) j 0)
added_is_total total shares i j v w h at there apart = let s = sum-set shares i v (v + w) at in
    let t = sum-set (set shares i (v + w)) j w 0 (set_else shares i j (v + w) apart ∙ there) in omega arith

-- Numbers that are apart: what stands at them, and how many there may be.
use Rattle.std.proofs.Common.{◌≡◌, ◌≢◌, ℕ, suc, ◌+◌, ◌<◌, ◌≤◌, inl, inr, Bool, true, false, cond, List, [], ◌∷◌, length, get_or, set, replicate, refl, sym, ap, ◌∙◌, arith}
use Rattle.std.specs.List.{AllPairs, All, sum_by}
use Rattle.std.proofs.lemmas.List.{get_or-set_other, get_or_past, set_past, get_or-replicate, length-replicate}
use Rattle.std.proofs.lemmas.List.Sums.{sum_by-set, sum_by-cons}
use Rattle.std.proofs.lemmas.List.Folds.{sum_by-replicate}
use Rattle.std.proofs.lemmas.Bool.{cases_lt}

-- the numbers are apart, by cases on the list
abbrev pub Apart : List ℕ → Type 0
Apart [] = Unit {0}
Apart (id ∷ ids) = ((k : ℕ) (d : ℕ) → k < length ids → get_or ids k d ≢ id) × Apart ids

pub apart_from_pairs : (ids : List ℕ) → AllPairs (λ id other. id ≢ other) ids → Apart ids
apart_from_pairs [] pairs = tt
apart_from_pairs (id ∷ ids) pairs =
    (λ k d below same. pairs 0 (k + 1) d (omega arith) (grind arith) (sym (grind arith)), apart_from_pairs ids (λ i j d before below. grind (arith, pairs (i + 1) (j + 1) d)))

-- a sum by two functions that agree on each element
sum_by_agree : (f g : ℕ → ℕ) (xs : List ℕ) → ((k d : ℕ) → k < length xs → f (get_or xs k d) ≡ g (get_or xs k d)) → sum_by f xs ≡ sum_by g xs
sum_by_agree f g [] agree = refl
sum_by_agree f g (x ∷ xs) agree =
    let first = agree 0 x (omega arith) in
    let rest = sum_by_agree f g xs (λ k d below. agree (suc k) d (omega arith)) in
    omega (arith, sum_by-cons f x xs, sum_by-cons g x xs, first, rest)

module _ {X : Type 0} (weight : X → ℕ) (nothing : X) (weightless : weight nothing ≡ 0) where
  -- what a list weighs without the element at a place
  weigh_without : (xs : List X) (id : ℕ) → sum_by weight (set xs id nothing) + weight (get_or xs id nothing) ≡ sum_by weight xs
  weigh_without xs id = elim (cases_lt id (length xs)) [
    | inl below ↦ let sums = sum_by-set weight xs id nothing nothing below in omega (arith, sums, weightless)
    | inr past ↦
        let none = ap {B = ℕ} weight (get_or_past xs id nothing past) in
        let same = ap {B = ℕ} (λ it. sum_by weight it) (set_past xs id nothing past) in
        omega (arith, none, same, weightless)
  ]

  -- what stands at different places adds up to no more than the whole list
  pub weigh_apart : (ids : List ℕ) (xs : List X) → Apart ids → sum_by (λ id. weight (get_or xs id nothing)) ids ≤ sum_by weight xs
  weigh_apart [] xs apart = omega arith
  weigh_apart (id ∷ ids) xs apart =
      let emptied = set xs id nothing in
      let rest = weigh_apart ids emptied apart.1 in
      let agree = sum_by_agree (λ it. weight (get_or xs it nothing)) (λ it. weight (get_or emptied it nothing)) ids (λ k d below. ap {B = ℕ} weight (sym (get_or-set_other xs id (get_or ids k d) nothing nothing (apart.0 k d below)))) in
      omega (arith, sum_by-cons (λ it. weight (get_or xs it nothing)) id ids, rest, agree, weigh_without xs id)

sum_by_one : (xs : List ℕ) → sum_by (λ _. 1) xs ≡ length xs
sum_by_one [] = refl
sum_by_one (x ∷ xs) = omega (arith, sum_by-cons (λ (_ : ℕ). 1) x xs, sum_by_one xs)

-- numbers below a limit that are apart, and lack one, are fewer than the limit
pub fewer : (ids : List ℕ) (limit n : ℕ) → All (λ id. id < limit) ids → AllPairs (λ id other. id ≢ other) ids → n < limit
    → ((k d : ℕ) → k < length ids → get_or ids k d ≢ n) → length ids < limit
fewer ids limit n below pairs within lacks =
    let present : List Bool = replicate limit true in
    let others : List Bool = set present n false in
    let weight : Bool → ℕ = λ it. cond it 1 0 in
    let all = weigh_apart weight false refl ids others (apart_from_pairs ids pairs) in
    let ones = sum_by_agree (λ id. weight (get_or others id false)) (λ _. 1) ids (λ k d at.
    let there = get_or-set_other present n (get_or ids k d) false false (lacks k d at) in
    let is = get_or-replicate limit (get_or ids k d) true false (below k d at) in
    ap {B = ℕ} weight (there ∙ is)) in
    let many = sum_by_one ids in
    let sums = sum_by-set weight present n false false (omega (arith, length-replicate limit true)) in
    let here = ap {B = ℕ} weight (get_or-replicate limit n true false within) in
    let total = sum_by-replicate weight limit true in
    omega (arith, all, ones, many, sums, here, total)

-- Numbers read digit by digit are those that the digits make.
use Rattle.std.proofs.Common.{◌≡◌, ℕ, ◌+◌, ◌*◌, ◌-◌, ◌^◌, ◌<◌, ◌≤◌, nat_lt, Bool, true, false, ◌&&◌, List, [], ◌∷◌, length, None, Some, ◌⊎◌, inl, inr, refl, arith, if◌then◌else◌}
use Rattle.std.proofs.lemmas.Bool.{le-ltb, lt-ltb, ltb-false, le-leb, lt-leb}
use Rattle.std.specs.List.{list_all}
use Rattle.row_defs.specs.Texts.{is_decimal, number_after, number_spelled}
use Rattle.dia_expr.specs.Digits.{with_digit, with_digits}

pub number_after-ge : (n : ℕ) (bytes : List ℕ) → n ≤ number_after n bytes
number_after-ge n [] = omega arith
number_after-ge n (b ∷ bytes) = omega (arith, number_after-ge (n * 10 + (b - 48)) bytes)

pub digits-end : (n : ℕ) → n < 2 ^ 64 → with_digits n [] ≡ Some n
digits-end n fits = rw (lt-ltb n (2 ^ 64) fits) refl

where_some : (p q : Bool) (x m : ℕ) → (if p && q then Some x else None) ≡ Some m → (p ≡ true) × (x ≡ m)
where_some true true x m is = (refl, cc)
where_some true false x m is = absurd cc
where_some false q x m is = absurd cc

where_none : (p q : Bool) (x : ℕ) → (if p && q then Some x else None) ≡ None → (p ≡ false) ⊎ (q ≡ false)
where_none true true x is = absurd cc
where_none true false x is = inr refl
where_none false q x is = inl refl

not_where : (p : Bool) (x : ℕ) → (if p && false then Some x else None) ≡ None
not_where true x = refl
not_where false x = refl

-- the next digit is taken first
pub digits-some : (n b m : ℕ) (bytes : List ℕ) → with_digit n b ≡ Some m → with_digits n (b ∷ bytes) ≡ with_digits m bytes
digits-some n b m bytes is =
    let was = where_some (is_decimal b) (nat_lt (n * 10 + (b - 48)) (2 ^ 64)) (n * 10 + (b - 48)) m is in
    rw (was.0, was.1) refl

pub digits-none : (n b : ℕ) (bytes : List ℕ) → with_digit n b ≡ None → with_digits n (b ∷ bytes) ≡ None
digits-none n b bytes is =
    let x = n * 10 + (b - 48) in
    elim (where_none (is_decimal b) (nat_lt x (2 ^ 64)) x is) [
      | inl other ↦ rw other refl
      | inr large ↦
          let high : 2 ^ 64 ≤ x = ltb-false x (2 ^ 64) large in
          let over : 2 ^ 64 ≤ number_after x bytes = omega (arith, high, number_after-ge x bytes) in
          rw (le-ltb (number_after x bytes) (2 ^ 64) over) (not_where (is_decimal b && list_all is_decimal bytes) (number_after x bytes))
    ]

pub digits-start : (bytes : List ℕ) → 0 < length bytes → length bytes ≤ 20 → with_digits 0 bytes ≡ number_spelled bytes
digits-start bytes some few = rw (le-leb 1 (length bytes) some, le-leb (length bytes) 20 few) refl

pub no_digits : (bytes : List ℕ) → length bytes ≡ 0 → number_spelled bytes ≡ None
no_digits [] none = refl
no_digits (b ∷ bytes) none = absurd (omega arith)

pub long_digits : (bytes : List ℕ) → 20 < length bytes → number_spelled bytes ≡ None
long_digits bytes long =
    rw (le-leb 1 (length bytes) (omega arith), lt-leb (length bytes) 20 long) refl

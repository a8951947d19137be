-- Quotients by a divisor of which it is known how often it goes into a larger number.
use Rattle.std.proofs.Common.{◌≡◌, ℕ, ◌+◌, ◌-◌, ◌*◌, ◌/◌, ◌%◌, ◌^◌, ◌<◌, ◌≤◌, arith, sym, ◌∙◌, ap}
use Rattle.std.proofs.Math.Nat.{mul-le-mul_right, le_of_mul-le-mul_right, lt_of_mul-lt-mul_right, div-mul-le_self}
use Rattle.std.proofs.lemmas.Nat.{div-add-mod', mod_below, div-mul-add, mod-mul-add, mul-le, mul-lt, div_below}

within : (n r d m q : ℕ) → 0 < m → r * d ≤ m → q * m ≤ n * r → q * d ≤ n
within n r d m q some low is =
    let a : q * m * d ≤ n * r * d = mul-le-mul_right d is in
    let b : r * d * n ≤ m * n = mul-le-mul_right n low in
    let c : q * d * m ≤ n * m = omega arith in
    le_of_mul-le-mul_right c some

most : (n r d m q : ℕ) → 0 < d → n < m → m ≤ r * d + d → n * r < q * m + m → n < q * d + d + d
most n r d m q some below high is =
    let a : m * n ≤ (r * d + d) * n = mul-le-mul_right n high in
    let b : (n * r + 1) * d ≤ (q * m + m) * d = mul-le-mul_right d (omega arith) in
    let c : (n + 1) * d ≤ m * d = mul-le-mul_right d (omega arith) in
    let e : n * m < (q * d + d + d) * m = omega arith in
    lt_of_mul-lt-mul_right m e

-- so often the divisor goes into the number, or once more
pub near_within : (n r d m : ℕ) → 0 < m → r * d ≤ m → n * r / m * d ≤ n
near_within n r d m some low = within n r d m (n * r / m) some low (div-mul-le_self (n * r) m)

pub near_most : (n r d m : ℕ) → 0 < d → n < m → m ≤ r * d + d → n < n * r / m * d + d + d
near_most n r d m some below high =
    let parts = div-add-mod' (n * r) m in
    let rest : n * r % m < m = mod_below (n * r) m (omega arith) in
    most n r d m (n * r / m) some below high (omega arith)

-- how often a divisor goes into one more than a number
pub often_within : (n d : ℕ) → n / d * d ≤ n + 1
often_within n d = let le = div-mul-le_self n d in omega arith

pub often_most : (n d : ℕ) → 0 < d → n + 1 ≤ n / d * d + d
often_most n d some =
    let parts = div-add-mod' n d in
    let rest : n % d < d = mod_below n d some in
    omega arith

pub quotient_is : (n d q : ℕ) → q * d ≤ n → n - q * d < d → q ≡ n / d
quotient_is n d q le rest =
    let e : q * d + (n - q * d) ≡ n = omega arith in
    sym (div-mul-add q d (n - q * d) rest) ∙ ap (λ k. k / d) e

pub remainder_is : (n d q : ℕ) → q * d ≤ n → n - q * d < d → n - q * d ≡ n % d
remainder_is n d q le rest =
    let e : q * d + (n - q * d) ≡ n = omega arith in
    sym (mod-mul-add q d (n - q * d) rest) ∙ ap (λ k. k % d) e

pub quotient_next : (n d q : ℕ) → q * d ≤ n → n < q * d + d + d → d ≤ n - q * d → q + 1 ≡ n / d
quotient_next n d q le high rest =
    let e : (q + 1) * d ≡ q * d + d = omega arith in
    quotient_is n d (q + 1) (omega arith) (omega arith)

pub remainder_next : (n d q : ℕ) → q * d ≤ n → n < q * d + d + d → d ≤ n - q * d → n - q * d - d ≡ n % d
remainder_next n d q le high rest =
    let e : (q + 1) * d ≡ q * d + d = omega arith in
    let f : n - q * d - d ≡ n - (q + 1) * d = omega arith in
    f ∙ remainder_is n d (q + 1) (omega arith) (omega arith)

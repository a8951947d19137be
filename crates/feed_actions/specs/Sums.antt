-- Sums add up.
use Rattle.std.specs.Prelude.{◌≡◌, ℕ, ◌+◌, ◌%◌, ◌^◌, List, ◌++◌}
use Rattle.std.proofs.Common.{arith, sym, subst}
use Rattle.std.proofs.lemmas.List.Sums.{sum_by-append}
use Rattle.row_defs.specs.Rows.{Row}
use Rattle.feed_actions.specs.Sinks.{summed, added, number_at}

pub summed-none : (n : ℕ) → summed n 0 n
summed-none n = omega arith

add_mod : (a b x y c : ℕ) → b % 2 ^ 64 ≡ (a + x) % 2 ^ 64 → c % 2 ^ 64 ≡ (b + y) % 2 ^ 64 → c % 2 ^ 64 ≡ (a + (x + y)) % 2 ^ 64
add_mod a b x y c p q = omega (arith, p, q)

pub summed-more : (i j : ℕ) (xs ys : List Row) (a b c : ℕ) → j ≡ i → summed a (added i xs) b → summed b (added j ys) c → summed a (added i (xs ++ ys)) c
summed-more i j xs ys a b c same p q =
    let Next : ℕ → Type 0 = λ k. summed b (added k ys) c in
    let whole = sum_by-append (number_at i) xs ys in
    let More : ℕ → Type 0 = λ n. c % 2 ^ 64 ≡ (a + n) % 2 ^ 64 in
    subst More (sym whole) (add_mod a b (added i xs) (added i ys) c p (subst Next same q))

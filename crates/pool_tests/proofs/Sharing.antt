-- What a turn of the tests' counter does to its rule.
use Rattle.std.proofs.Common.{◌≡◌, ℕ, ◌+◌, ◌-◌, ◌≤◌, sum, Option, Some, None, MatchOption, IfSome, arith}
use Rattle.turn_table.specs.Seats.{Steps, Meets}
use Rattle.pool_tests.specs.Shares.{IsTotal, IsAdded, sum-set}

-- the giver's share rises as the total does
pub adds : (found given share : ℕ) → found ≤ given → Steps IsTotal found given share (share + (given - found))
adds found given share up shares seat h at = let s = sum-set shares seat share (share + (given - found)) at in omega arith

-- no share is above the total
pub within : (total share : ℕ) → Meets IsTotal total share → share ≤ total
within total share m = let s = sum-set m.0 m.1 share 0 m.2 in let h : total ≡ sum m.0 = m.3 in omega arith

-- An addition never makes the total less.
pub rises : (before amount after : ℕ) (answer : Option ℕ) → IsAdded before amount after answer → before ≤ after
rises before amount after None h = omega arith
rises before amount after (Some found) h = let e = h.1 in omega arith

-- The share that rose as the total did rose by the amount, or not at all.
pub share_after : (before amount after share now : ℕ) (answer : Option ℕ) → IsAdded before amount after answer → now ≡ share + (after - before)
    → MatchOption answer (now ≡ share) (λ _. now ≡ share + amount)
share_after before amount after share now None h e = omega arith
share_after before amount after share now (Some found) h e = let s = h.1 in omega arith

pub share_within : (before amount after share : ℕ) (answer : Option ℕ) → IsAdded before amount after answer → share ≤ before → IfSome answer (λ found. share ≤ found)
share_within before amount after share None h le = tt
share_within before amount after share (Some found) h le = let e = h.0 in omega arith

-- Positions that are shared out.
use Rattle.std.specs.Prelude.{ℕ, zero, suc, ◌+◌, ◌*◌, ◌/◌, ◌<◌, ◌≤◌, List, [], ◌∷◌, ◌++◌, length, slice_range}

-- where the share of a rank starts, and the one before it ends
abbrev pub share_start : ℕ → ℕ → ℕ → ℕ
share_start total workers rank = total * rank / workers

-- the share of a rank has the position
abbrev pub HasPlace : ℕ → ℕ → ℕ → ℕ → Type 0
HasPlace total workers rank place = (share_start total workers rank ≤ place) × (place < share_start total workers (rank + 1))

-- the elements of a list whose positions are a rank's share
abbrev pub share_of : {A : Type 0} → List A → ℕ → ℕ → List A
share_of xs workers rank = slice_range xs (share_start (length xs) workers rank) (share_start (length xs) workers (rank + 1))

-- the shares of the first so many ranks
abbrev pub shares_of : {A : Type 0} → List A → ℕ → ℕ → List (List A)
shares_of xs workers zero = []
shares_of xs workers (suc n) = shares_of xs workers n ++ share_of xs workers n ∷ []

-- Counts of faults and of writes, which are kept in 64 bits and stand still at the largest number.
use Rattle.std.specs.Prelude.{◌≡◌, ℕ, ◌+◌, ◌-◌, ◌^◌, ◌≤◌, min}

-- one more, where there is one
abbrev pub raised : ℕ → ℕ
raised n = min (n + 1) (2 ^ 64 - 1)

-- the count rose, or stands at the largest number
abbrev pub HasRisen : ℕ → ℕ → Type 0
HasRisen before now = raised before ≤ now

-- what a fault tells is the count now, which rose
abbrev pub TellsCount : ℕ → ℕ → ℕ → Type 0
TellsCount told before now = HasRisen before now × (told ≡ now)

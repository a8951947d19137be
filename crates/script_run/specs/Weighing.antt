-- What is known of the writes of the disk, for the rows of each list that was cached.
use Rattle.std.specs.Prelude.{ℕ, ◌+◌, ◌-◌, ◌/◌, ◌^◌, ◌<◌, ◌≤◌, List, [], ◌∷◌, length}
use Rattle.row_defs.specs.Rows.{Row}
use Rattle.block_pool.specs.Handles.{HandValue}
use Rattle.block_pool.specs.Weighing.{Weighs}
use Rattle.dia_file.specs.Encoding.{encoded}

-- the first hand weighed files of these rows
abbrev pub IsWeighed : List HandValue → List Row → Type 0
IsWeighed [] rows = ⊥
IsWeighed (a ∷ hands) rows = Weighs a.pool.opening a.notes (length (encoded rows))

-- Where the rows' encoded length is above the limit, the writes rose by at least what is above it in blocks, rounded down, unless
-- they stand at the end of their type.
abbrev pub IsSpilled : ℕ → ℕ → ℕ → ℕ → List Row → Type 0
IsSpilled limit block before now rows =
    limit < length (encoded rows) → now < 2 ^ 64 - 1 → before + (length (encoded rows) - limit) / block ≤ now

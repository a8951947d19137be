-- The hands of a run's pool.
use Rattle.std.specs.Prelude.{◌≡◌}
use Rattle.atomic_table.specs.Seated.{TableId}
use Rattle.block_pool.specs.Handles.{PassValue, PermitsValue, HandValue}

-- a share of the pool in this turn
abbrev pub IsShareIn : TableId → PassValue × PermitsValue → Type 0
IsShareIn turn share = (share.0.pool.turn ≡ turn) × (share.1.pool ≡ share.0.pool)

-- the hand has the share's pass and permits
abbrev pub IsHandOf : PassValue × PermitsValue → HandValue → Type 0
IsHandOf share a = (a.pool ≡ share.0.pool) × (a.permits ≡ share.1.count)

-- the pass is the one that the hand ended with
abbrev pub IsPassOf : HandValue → PassValue → Type 0
IsPassOf a pass = (pass.pool ≡ a.pool) × (pass.notes ≡ a.notes)

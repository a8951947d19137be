-- Hands of one pool that can do rounds.
use Rattle.std.specs.Prelude.{◌≡◌, ◌<◌, ◌≤◌, List, All}
use Rattle.block_pool.specs.Handles.{PoolName, HandValue}

-- the hand has a permit, and a frame has room for a number
pub record IsAble (hand : HandValue) : Type 0 where
  pub permit : 0 < hand.permits
  pub block : 4096 ≤ hand.pool.opening.block

-- hands of this pool, each with a permit
abbrev pub AreHands : PoolName → List HandValue → Type 0
AreHands pool = All (λ hand. (hand.pool ≡ pool) × (0 < hand.permits))

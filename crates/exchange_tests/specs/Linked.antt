-- Hands of two workers, as tests have them.
use Rattle.std.specs.Prelude.{◌≡◌, ◌≤◌, List, All}
use Rattle.block_pool.specs.Handles.{PoolName, HandValue, PassValue, PermitsValue}

-- shares of this pool, each with three permits
abbrev pub AreReady : PoolName → List (PassValue × PermitsValue) → Type 0
AreReady pool = All (λ (share : PassValue × PermitsValue). (share.0.pool ≡ pool) × (share.1.pool ≡ pool) × (3 ≤ share.1.count))

-- hands of this pool, each with a permit for a frame for each of two workers, and one more
abbrev pub AreHands : PoolName → List HandValue → Type 0
AreHands pool = All (λ (hand : HandValue). (hand.pool ≡ pool) × (3 ≤ hand.permits))

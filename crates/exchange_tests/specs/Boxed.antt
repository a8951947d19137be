-- Hands and boxes of one pool, as tests have them.
use Rattle.std.specs.Prelude.{◌≡◌, ◌<◌, List, All}
use Rattle.block_pool.specs.Handles.{PoolName, HandValue}
use Rattle.multiplexer.specs.declared.inbox.Inbox.{Inbox}
use Rattle.scatter.specs.Carrying.{AreBlocksOf}

-- hands of this pool, each with a permit
abbrev pub AreHands : PoolName → List HandValue → Type 0
AreHands pool = All (λ (hand : HandValue). (hand.pool ≡ pool) × (0 < hand.permits))

-- boxes with blocks of this pool
abbrev pub AreBoxes : PoolName → List Inbox → Type 0
AreBoxes pool = All (AreBlocksOf pool)

-- What contracts see of an end to send through.
use Rattle.std.specs.Prelude.{◌≡◌, ◌<◌, ℕ, List, [], ◌∷◌, ◌++◌, length, slice_set, slice_index_or}
use Rattle.std.specs.declared.alloc.Global.{Global}
use Rattle.crossbeam_queue.specs.SegTies.{SegId}
use Rattle.block_pool.specs.Handles.{PoolName, BlockValue}

-- of which mail, whose, and by receiver the blocks sent
pub record SendValue : Type 0 where
  pub mail : List (SegId Global)
  pub sender : ℕ
  pub sent : List (List BlockValue)

-- one more block sent to a receiver
abbrev pub with_sent : List (List BlockValue) → ℕ → BlockValue → List (List BlockValue)
with_sent sent to block = slice_set sent to (slice_index_or sent to [] ++ block ∷ [])

-- a block that isn't empty, of this pool
abbrev pub IsSentFrom : PoolName → BlockValue → Type 0
IsSentFrom pool b = (b.pool ≡ pool) × (0 < length b.bytes)

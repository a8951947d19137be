-- Workers of a pool over a new disk in memory.
use Rattle.std.specs.Prelude.{◌≡◌, ℕ, ◌<◌, true, List}
use Rattle.atomic_table.specs.Seated.{TableId}
use Rattle.block_pool.specs.Handles.{PoolName, PassValue, PermitsValue, BlockValue, AreOfPool}
use Rattle.block_pool.specs.Opening.{opened_as}

-- a pool of so many frames of this size
abbrev pub new_pool : TableId → ℕ → ℕ → PoolName
new_pool turn frames block = opened_as turn frames block true 0 0

-- one of the least size for four workers
abbrev pub pool_of_four : TableId → PoolName
pool_of_four turn = new_pool turn 64 4096

-- the share is of this pool, and has a permit
abbrev pub IsReady : PoolName → PassValue × PermitsValue → Type 0
IsReady pool share = (share.0.pool ≡ pool) × (share.1.pool ≡ pool) × (0 < share.1.count)

-- a worker's share, and blocks
pub record JobValue : Type 0 where
  pub pass : PassValue
  pub permits : PermitsValue
  pub blocks : List BlockValue

-- the share and the blocks are of this pool, and there is a permit
abbrev pub IsJob : PoolName → JobValue → Type 0
IsJob pool job = IsReady pool (job.pass, job.permits) × AreOfPool pool job.blocks

abbrev pub AreJobs : PoolName → JobValue × JobValue → Type 0
AreJobs pool jobs = IsJob pool jobs.0 × IsJob pool jobs.1

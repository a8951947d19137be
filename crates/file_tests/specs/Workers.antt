-- Workers that send to one another, each with a hand of one pool.
use Rattle.std.specs.Prelude.{◌≡◌, ℕ, ◌<◌, List, [], length, slice_index_or}
use Rattle.std.specs.declared.alloc.Global.{Global}
use Rattle.crossbeam_queue.specs.SegTies.{SegId}
use Rattle.atomic_table.specs.Seated.{TableId}
use Rattle.block_pool.specs.Handles.{PoolName, PassValue, PermitsValue}
use Rattle.block_pool.specs.Workers.{IsReady, new_pool}
use Rattle.multiplexer.specs.Sending.{SendValue}
use Rattle.multiplexer.specs.Receiving.{RecvValue}

-- a pool of 256 frames of 4,096 bytes
abbrev pub pool_of_five : TableId → PoolName
pool_of_five turn = new_pool turn 256 4096

-- a worker's ends, pass and permits
pub record WorkerValue : Type 0 where
  pub send : SendValue
  pub recv : RecvValue
  pub pass : PassValue
  pub permits : PermitsValue

-- the worker's share is of this pool, with a permit
abbrev pub IsOf : PoolName → WorkerValue → Type 0
IsOf pool w = IsReady pool (w.pass, w.permits)

-- one of so many workers, who sent nothing yet
pub record IsFresh (workers : ℕ) (w : WorkerValue) : Type 0 where
  pub some : 0 < workers
  pub all : workers ≡ length w.send.mail
  pub nothing : (j : ℕ) → slice_index_or w.send.sent j [] ≡ []

-- the ends are those that the worker had, and it has a share as before
pub record KeepsEnds (pool : PoolName) (before after : WorkerValue) : Type 0 where
  pub send_mail : after.send.mail ≡ before.send.mail
  pub sender : after.send.sender ≡ before.send.sender
  pub recv_mail : after.recv.mail ≡ before.recv.mail
  pub rank : after.recv.rank ≡ before.recv.rank
  pub share : IsOf pool after

-- the ends of two workers, through which nothing went yet
pub record AreNewEnds (mail : List (SegId Global)) (send_zero send_one : SendValue) (recv_zero recv_one : RecvValue) : Type 0 where
  pub two : length mail ≡ 2
  pub of_mail : (send_zero.mail ≡ mail) × (send_one.mail ≡ mail) × (recv_zero.mail ≡ mail) × (recv_one.mail ≡ mail)
  pub senders : (send_zero.sender ≡ 0) × (send_one.sender ≡ 1)
  pub ranks : (recv_zero.rank ≡ 0) × (recv_one.rank ≡ 1)
  pub nothing_zero : (j : ℕ) → slice_index_or send_zero.sent j [] ≡ []
  pub nothing_one : (j : ℕ) → slice_index_or send_one.sent j [] ≡ []

-- The ends of a mail of two workers, as tests use them.
use Rattle.std.specs.Prelude.{◌≡◌, ℕ, ◌≤◌, List, [], All, length, slice_index_or}
use Rattle.std.specs.declared.alloc.Global.{Global}
use Rattle.crossbeam_queue.specs.SegTies.{SegId}
use Rattle.block_pool.specs.Handles.{PoolName, HandValue}
use Rattle.multiplexer.specs.Sending.{SendValue, IsSentFrom}
use Rattle.multiplexer.specs.Receiving.{RecvValue}
use Rattle.multiplexer.specs.declared.packet.Packet.{Packet}

-- an end to send through, of this mail and rank: at most so many blocks went to each worker, each of this pool and not empty
pub record IsSender (mail : List (SegId Global)) (rank : ℕ) (pool : PoolName) (most : ℕ) (s : SendValue) : Type 0 where
  pub of_mail : s.mail ≡ mail
  pub rank_is : s.sender ≡ rank
  pub few : (w : ℕ) → length (slice_index_or s.sent w []) ≤ most
  pub own : (w : ℕ) → All (IsSentFrom pool) (slice_index_or s.sent w [])

-- an end to take from, of this mail and rank, that took these packets
pub record IsReceiver (mail : List (SegId Global)) (rank : ℕ) (taken : List Packet) (r : RecvValue) : Type 0 where
  pub of_mail : r.mail ≡ mail
  pub rank_is : r.rank ≡ rank
  pub taken_is : r.taken ≡ taken

-- the ends of two workers, of whom only the second took packets
pub record AreTwoEnds (pool : PoolName) (most : ℕ) (front : List Packet) (a b : SendValue) (x y : RecvValue) : Type 0 where
  pub mail : List (SegId Global)
  pub two : length mail ≡ 2
  pub send_zero : IsSender mail 0 pool most a
  pub send_one : IsSender mail 1 pool most b
  pub recv_zero : IsReceiver mail 0 [] x
  pub recv_one : IsReceiver mail 1 front y

-- the hands of two workers, of this pool
pub record AreTwoHands (pool : PoolName) (hands : List HandValue) : Type 0 where
  pub count : length hands ≡ 2
  pub own : All (λ (h : HandValue). h.pool ≡ pool) hands

-- the hands and the ends of two workers, through which blocks of their pool went
pub record IsPosted (front : List Packet) (a b : SendValue) (x y : RecvValue) (hands : List HandValue) : Type 0 where
  pub pool : PoolName
  pub own : AreTwoHands pool hands
  pub ends : AreTwoEnds pool 2 front a b x y

-- What packets hold.
use Rattle.std.specs.Prelude.{◌≡◌, ◌==◌, ℕ, ◌≤◌, List, [], ◌∷◌, ◌++◌, length, map, cond, Option, None, Some}
use Rattle.block_pool.specs.Handles.{BlockValue, PoolName, AreOfPool}
use Rattle.multiplexer.specs.declared.packet.Packet.{Packet}

-- the bytes of one sender's packets, one after the other, as they were sealed
abbrev pub bytes_from : ℕ → List Packet → List ℕ
bytes_from k [] = []
bytes_from k (p ∷ ps) = cond (p.from == k) (p.block.bytes ++ bytes_from k ps) (bytes_from k ps)

abbrev pub blocks_in : List Packet → List BlockValue
blocks_in packets = map (λ p. p.block) packets

-- the packet's sender, where there are bytes; else whoever comes after it
abbrev pub sender_of : List ℕ → ℕ → Option ℕ → Option ℕ
sender_of [] from rest = rest
sender_of (b ∷ bs) from rest = Some from

-- the sender of the first packet that has bytes
abbrev pub first_sender : List Packet → Option ℕ
first_sender [] = None
first_sender (p ∷ ps) = sender_of p.block.bytes p.from (first_sender ps)

-- the senders never fall, from number k on
abbrev pub Rises : ℕ → List Packet → Type 0
Rises k [] = Unit {0}
Rises k (p ∷ ps) = (k ≤ p.from) × Rises p.from ps

-- the next packet of a sender stands first, and each sender has the same bytes, in as many blocks of the same pools
pub record IsBrought (from : ℕ) (before after : List Packet) : Type 0 where
  pub first : Packet
  pub others : List Packet
  pub after_is : after ≡ first ∷ others
  pub own : first.from ≡ from
  pub same : (k : ℕ) → bytes_from k after ≡ bytes_from k before
  pub count : length after ≡ length before
  pub pools : (pool : PoolName) → AreOfPool pool (blocks_in before) → AreOfPool pool (blocks_in after)
  pub rises : Rises from before → Rises from after

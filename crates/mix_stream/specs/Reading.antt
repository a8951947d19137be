-- What contracts see of a reader of packets.
use Rattle.std.specs.Prelude.{◌≡◌, ◌≢◌, ◌==◌, ℕ, ◌+◌, ◌<◌, ◌≤◌, true, List, [], ◌++◌, length, take, cond, Option, Some}
use Rattle.row_defs.specs.declared.kind.Kind.{Kind}
use Rattle.row_defs.specs.Rows.{Row, IsRow}
use Rattle.block_pool.specs.Handles.{BlockValue, PoolName, HandValue, HasHit, AreOfPool}
use Rattle.pool_core.specs.declared.refusals.PinErr.{PinErr}
use Rattle.pool_core.specs.declared.refusals.PinErr.TheVariants.{Disk, Damaged, NoMemory}
use Rattle.dia_file.specs.Encoding.{spelled}
use Rattle.multiplexer.specs.declared.packet.Packet.{Packet}
use Rattle.mix_stream.specs.Packets.{bytes_from, blocks_in, sender_of, first_sender}

-- The kinds of the rows; whose packet is read, the bytes of it that are left, and its block while that is pinned; and the
-- packets behind it.
pub record Reading : Type 0 where
  pub kinds : List Kind
  pub from : ℕ
  pub left : List ℕ
  pub pinned : List BlockValue
  pub packets : List Packet

-- the bytes of sender k that aren't read yet
abbrev pub bytes_of : ℕ → Reading → List ℕ
bytes_of k r = cond (r.from == k) r.left [] ++ bytes_from k r.packets

-- the blocks that aren't freed, and how many of them are pinned
abbrev pub blocks_of : Reading → List BlockValue
blocks_of r = r.pinned ++ blocks_in r.packets

abbrev pub pins : Reading → ℕ
pins r = length r.pinned

-- whose row comes next: of the packet that is read, where bytes of it are left, else of the first packet that has bytes
abbrev pub turn : Reading → Option ℕ
turn r = sender_of r.left r.from (first_sender r.packets)

-- as many bytes, and where the disk tells the same ones
pub record Stays (pool : PoolName) (before after : List ℕ) : Type 0 where
  pub count : length after ≡ length before
  pub told : pool.opening.tells ≡ true → after ≡ before

-- the same of each sender: nothing is read
abbrev pub IsSame : PoolName → Reading → Reading → Type 0
IsSame pool a b = (k : ℕ) → Stays pool (bytes_of k a) (bytes_of k b)

-- The row is the next one of sender k, whose turn it is: the sender's bytes begin with it, and nothing else is read.
pub record IsNext (pool : PoolName) (k : ℕ) (row : Row) (a b : Reading) : Type 0 where
  pub turn_is : turn a ≡ Some k
  pub is_row : IsRow a.kinds (spelled row) row
  pub read : Stays pool (bytes_of k a) (spelled row ++ bytes_of k b)
  pub others : (j : ℕ) → j ≢ k → Stays pool (bytes_of j a) (bytes_of j b)

-- no row stands at the beginning
abbrev pub StartsNoRow : List Kind → List ℕ → Type 0
StartsNoRow kinds bytes = (row : Row) (n : ℕ) → IsRow kinds (take n bytes) row → ⊥

-- some sender has bytes left, and they don't begin with a row
abbrev pub IsDamaged : Reading → Type 0
IsDamaged r = (k : ℕ) × (0 < length (bytes_of k r)) × StartsNoRow r.kinds (bytes_of k r)

-- nothing is left, of anybody
pub record IsDone (r : Reading) : Type 0 where
  pub blocks : blocks_of r ≡ []
  pub bytes : (k : ℕ) → bytes_of k r ≡ []

-- Why no row was read: the disk failed in this call, or there was no memory, or some sender's bytes are no rows. Where the
-- disk tells, these are the bytes as they were sealed.
abbrev pub RefusesStream : HandValue → HandValue → Reading → PinErr → Type 0
RefusesStream before after r (Disk count) = HasHit before.notes after.notes count
RefusesStream before after r Damaged = before.pool.opening.tells ≡ true → IsDamaged r
RefusesStream before after r NoMemory = Unit {0}

-- The blocks left are of the hand's pool, and those that aren't left any more were freed by the hand. A permit goes with the
-- block that is pinned.
pub record Drains (a b : HandValue) (before after : Reading) : Type 0 where
  pub kinds : after.kinds ≡ before.kinds
  pub own : AreOfPool b.pool (blocks_of after)
  pub permits : b.permits + pins after ≡ a.permits + pins before
  pub one : pins after ≤ 1
  pub freed : b.notes.gone + length (blocks_of after) ≡ a.notes.gone + length (blocks_of before)
  pub made : b.notes.made ≡ a.notes.made

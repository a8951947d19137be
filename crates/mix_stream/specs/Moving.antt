-- From packet to packet.
use Rattle.std.specs.Prelude.{◌≡◌, ◌<◌, List, ◌∷◌, length, Some}
use Rattle.row_defs.specs.Rows.{Row}
use Rattle.block_pool.specs.Handles.{PoolName, PinnedValue, IsShown, AreOfPool}
use Rattle.dia_file.specs.Encoding.{spelled}
use Rattle.multiplexer.specs.declared.packet.Packet.{Packet}
use Rattle.pool_core.specs.declared.refusals.PinErr.{PinErr}
use Rattle.pool_core.specs.declared.refusals.PinErr.TheVariants.{Disk, Damaged, NoMemory}
use Rattle.mix_stream.specs.Packets.{Rises, blocks_in}
use Rattle.mix_stream.specs.Reading.{Reading, IsSame, IsNext, IsDamaged, turn}
use Rattle.mix_stream.specs.Streams.{reading_of, shown_bytes, IsAt}
use Rattle.mix_stream.specs.declared.stream.Stream.{Stream}
use Rattle.mix_stream.specs.declared.stream.RowPlace.{RowPlace}

-- all of the block was read or copied
abbrev pub IsRead : Stream → Type 0
IsRead s = s.at ≡ length (shown_bytes s.shown)

-- why no row is found in what is open
abbrev pub Misses : Reading → PinErr → Type 0
Misses r (Disk count) = ⊥
Misses r Damaged = IsDamaged r
Misses r NoMemory = Unit {0}

-- Nothing is read: another packet is open, and packets stand in another order, at the most.
pub record IsMoved (pool : PoolName) (s t : Reading) : Type 0 where
  pub kinds : t.kinds ≡ s.kinds
  pub same : IsSame pool s t
  pub turn_is : turn t ≡ turn s
  pub rises : Rises s.from s.packets → Rises t.from t.packets

-- the packets stand in another order at the most, and the one to be read next stands first
pub record IsChosen (s t : Stream) : Type 0 where
  pub kinds : t.kinds ≡ s.kinds
  pub shown : t.shown ≡ s.shown
  pub at : t.at ≡ s.at
  pub buffer : t.buffer ≡ s.buffer
  pub pending : t.pending ≡ s.pending
  pub from : t.from ≡ s.from
  pub moved : (pool : PoolName) → IsMoved pool (reading_of s) (reading_of t)
  pub pools : (pool : PoolName) → AreOfPool pool (blocks_in s.packets.items) → AreOfPool pool (blocks_in t.packets.items)
  pub count : length t.packets.items ≡ length s.packets.items

-- some packet stands first, and where a row has begun it is its sender's
pub record IsReady (s : Stream) : Type 0 where
  pub first : Packet
  pub others : List Packet
  pub packets : s.packets.items ≡ first ∷ others
  pub own : 0 < s.pending → first.from ≡ s.from

-- the first packet's block is pinned
pub record IsOpened (s t : Stream) : Type 0 where
  pub first : Packet
  pub pinned : PinnedValue
  pub packets : s.packets.items ≡ first ∷ t.packets.items
  pub shown : t.shown ≡ Some pinned
  pub pool : pinned.pool ≡ first.block.pool
  pub bytes : pinned.bytes ≡ first.block.bytes
  pub is_shown : IsShown pinned
  pub from : t.from ≡ first.from
  pub kinds : t.kinds ≡ s.kinds
  pub at : t.at ≡ s.at
  pub buffer : t.buffer ≡ s.buffer
  pub pending : t.pending ≡ s.pending

-- the row at the place is the next one
pub record GivesNext (pool : PoolName) (s : Reading) (place : RowPlace) (t : Stream) : Type 0 where
  pub row : Row
  pub lies : IsAt t place (spelled row)
  pub next : IsNext pool t.from row s (reading_of t)

-- Boxes of packets of many senders.
use Rattle.std.specs.Prelude.{◌≡◌, ◌+◌, ◌^◌, ◌<◌, ◌≤◌, ℕ, List, [], ◌++◌, map, Some, slice_get}
use Rattle.row_defs.specs.declared.kind.Kind.{Kind}
use Rattle.block_pool.specs.Handles.{PoolName, AreOfPool}
use Rattle.multiplexer.specs.declared.packet.Packet.{Packet}
use Rattle.multiplexer.specs.declared.inbox.Inbox.{Inbox}
use Rattle.mix_stream.specs.Packets.{bytes_from, blocks_in}
use Rattle.exchange.specs.Deals.{rows_to}
use Rattle.dealt_shares.specs.Dealings.{Dealing}
use Rattle.arrivals.specs.Boxes.{Holds}

-- the same packets, of senders whose ranks are so many higher; those of ranks that are too high are left out
pub record IsRaised (by : ℕ) (packets raised : List Packet) : Type 0 where
  pub low : (k : ℕ) → k < by → bytes_from k raised ≡ []
  pub here : (k : ℕ) → by + k < 2 ^ 32 → bytes_from (by + k) raised ≡ bytes_from k packets
  pub past : (k : ℕ) → 2 ^ 32 ≤ k → bytes_from k raised ≡ []
  pub pools : (pool : PoolName) → AreOfPool pool (blocks_in packets) → AreOfPool pool (blocks_in raised)

-- the packets of a box, and behind them those of another, whose senders' ranks are so many higher
pub record IsMerged (by : ℕ) (box more merged : Inbox) : Type 0 where
  pub raised : List Packet
  pub is : merged.packets.items ≡ box.packets.items ++ raised
  pub are : IsRaised by more.packets.items raised

-- each worker's box holds, of each sender, just the rows that went to that worker
abbrev pub HasCome : List Kind → List Dealing → List Inbox → Type 0
HasCome kinds senders boxes = (j : ℕ) (x : Inbox) → slice_get boxes j ≡ Some x → Holds kinds x.packets.items (map (λ (s : Dealing). rows_to j s.rows s.to) senders)

-- What contracts see of the two ends at one queue.
use Rattle.std.specs.Prelude.{ℕ, List, []}
use Rattle.std.specs.declared.alloc.Global.{Global}
use Rattle.crossbeam_queue.specs.SegTies.{SegId}
use Rattle.block_pool.specs.Handles.{BlockValue}
use Rattle.multiplexer.specs.declared.packet.Packet.{Packet}
use Rattle.multiplexer.specs.declared.view.View.{View}
use Rattle.multiplexer.specs.declared.view.View.TheVariants.{Sends, Receives, Spent}

-- a sender's place at one queue
pub record LaneValue : Type 0 where
  pub queue : SegId Global
  pub from : ℕ
  pub sent : List BlockValue

abbrev pub blocks_of : View → List BlockValue
blocks_of (Sends k blocks) = blocks
blocks_of (Receives taken made known) = []
blocks_of Spent = []

-- the receiver's place at its queue
pub record IntakeValue : Type 0 where
  pub queue : SegId Global
  pub taken : List Packet
  pub made : ℕ
  pub known : List (List BlockValue)
  pub misses : ℕ

abbrev pub taken_of : View → List Packet
taken_of (Sends k blocks) = []
taken_of (Receives taken made known) = taken
taken_of Spent = []

abbrev pub made_of : View → ℕ
made_of (Sends k blocks) = 0
made_of (Receives taken made known) = made
made_of Spent = 0

abbrev pub known_of : View → List (List BlockValue)
known_of (Sends k blocks) = []
known_of (Receives taken made known) = known
known_of Spent = []

-- Packets whose blocks a net brings to the pools of the hands that are to read them.
use Rattle.std.specs.Prelude.{◌≡◌, ℕ, ◌<◌, Bool, false, List, [], ◌++◌, map, All, Some, ⊤, Result, Ok, Err, Vec, length, slice_get, slice_index_or}
use Rattle.std.specs.declared.alloc.Global.{Global}
use Rattle.dia_edge.specs.Counts.{TellsCount}
use Rattle.block_pool.specs.Handles.{PoolName, BlockValue, HandValue, AreOfPool}
use Rattle.multiplexer.specs.Mixes.{IsMix, of_sender, numbered}
use Rattle.multiplexer.specs.Sending.{SendValue, IsSentFrom}
use Rattle.multiplexer.specs.Receiving.{RecvValue}
use Rattle.multiplexer.specs.Settling.{sent_to}
use Rattle.multiplexer.specs.declared.inbox.Inbox.{Inbox}
use Rattle.multiplexer.specs.declared.packet.Packet.{Packet}
use Rattle.scatter.specs.declared.net_err.NetErr.{NetErr}
use Rattle.scatter.specs.declared.net_err.NetErr.TheVariants.{Link, LinkBytes, Disk, Damaged, NoMemory}
use Rattle.scatter.specs.Told.{Tells, SomeHit}

-- the packet's block isn't empty, and is of the pool of its sender's hand
pub record IsFromHand (hands : List HandValue) (p : Packet) : Type 0 where
  pub hand : HandValue
  pub at : slice_get hands p.from ≡ Some hand
  pub own : IsSentFrom hand.pool p.block

-- the packets come from these hands, each sender's numbered from 0 in their order
pub record AreFromHands (hands : List HandValue) (x : Inbox) : Type 0 where
  pub own : All (IsFromHand hands) x.packets.items
  pub sent : List (List BlockValue)
  pub mix : IsMix sent x.packets.items

-- the packets' blocks are of this pool
abbrev pub AreBlocksOf : PoolName → Inbox → Type 0
AreBlocksOf pool x = AreOfPool pool (map (λ (p : Packet). p.block) x.packets.items)

-- the packets' blocks are of the hand's pool
abbrev pub AreForHand : HandValue → Inbox → Type 0
AreForHand hand x = AreBlocksOf hand.pool x

abbrev pub numbers_in : List Packet → List ℕ
numbers_in packets = map (λ (p : Packet). p.seq) packets

abbrev pub bytes_in : List Packet → List (List ℕ)
bytes_in packets = map (λ (p : Packet). p.block.bytes) packets

-- Of each sender there are packets with the same numbers in the same order, and no others. Where the disks tell, they have
-- the same bytes.
pub record IsCarried (hands : List HandValue) (before after : Inbox) : Type 0 where
  pub numbers : (k : ℕ) → numbers_in (of_sender k after.packets.items) ≡ numbers_in (of_sender k before.packets.items)
  pub bytes : All Tells hands → (k : ℕ) → bytes_in (of_sender k after.packets.items) ≡ bytes_in (of_sender k before.packets.items)

-- why a net didn't carry: whether it tells, its counts of faults before and after, and the hands before and after
abbrev pub NotCarried : Bool → ℕ → ℕ → List HandValue → List HandValue → NetErr → Type 0
NotCarried tells faults faults_now hands now (Link count) = TellsCount count faults faults_now
NotCarried tells faults faults_now hands now (LinkBytes at) = tells ≡ false
NotCarried tells faults faults_now hands now (Disk count) = SomeHit hands now count
NotCarried tells faults faults_now hands now Damaged = All Tells hands → ⊥
NotCarried tells faults faults_now hands now NoMemory = ⊤

-- all boxes are answered as they are
abbrev pub AnswersAll : List Inbox → Result (Vec Inbox Global) NetErr → Type 0
AnswersAll boxes (Ok now) = now.items ≡ boxes
AnswersAll boxes (Err e) = ⊥

-- Mail that was settled.

-- each block that was sent isn't empty, and is of the sender's hand's pool
abbrev pub SendsOwn : HandValue → SendValue → Type 0
SendsOwn hand send = (w : ℕ) → All (IsSentFrom hand.pool) (slice_index_or send.sent w [])

-- these are the packets that the end took, in their order
abbrev pub IsFrontOf : Vec Packet Global → RecvValue → Type 0
IsFrontOf front recv = front.items ≡ recv.taken

-- the packets taken before, and behind them the others
abbrev pub IsJoined : Vec Packet Global → Inbox → Inbox → Type 0
IsJoined front rest x = x.packets.items ≡ front.items ++ rest.packets.items

-- each receiver has a mix of what was sent to it
pub record AreMixes (sends : List SendValue) (boxes : List Inbox) : Type 0 where
  pub count : length boxes ≡ length sends
  pub mixed : (j : ℕ) (x : Inbox) → slice_get boxes j ≡ Some x → IsMix (sent_to j sends) x.packets.items

-- Of each sender come as many packets as blocks that it sent, numbered from 0 in its order, and nothing comes of anybody else.
-- Where the disks tell, they have the bytes that it sent.
pub record IsMixOnBytes (hands : List HandValue) (sent : List (List BlockValue)) (got : List Packet) : Type 0 where
  pub numbers : (k : ℕ) → numbers_in (of_sender k got) ≡ numbers_in (numbered k 0 (slice_index_or sent k []))
  pub bytes : All Tells hands → (k : ℕ) → bytes_in (of_sender k got) ≡ map (λ (b : BlockValue). b.bytes) (slice_index_or sent k [])

pub record AreMixesOnBytes (hands : List HandValue) (sends : List SendValue) (boxes : List Inbox) : Type 0 where
  pub mixed : (j : ℕ) (x : Inbox) → slice_get boxes j ≡ Some x → IsMixOnBytes hands (sent_to j sends) x.packets.items

-- what was sent, as each receiver has it, was answered so
pub record IsAnswerOf (answers : List Inbox → Result (Vec Inbox Global) NetErr → Type 0) (sends : List SendValue) (boxes : Vec Inbox Global) : Type 0 where
  pub sent : List Inbox
  pub mixes : AreMixes sends sent
  pub answered : answers sent (Ok boxes)

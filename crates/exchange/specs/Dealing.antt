-- Bytes on their way to workers.
use Rattle.std.specs.Prelude.{◌≡◌, ◌≢◌, ℕ, ◌+◌, ◌<◌, ◌≤◌, List, [], ◌++◌, length, Option, None, Some, ⊤, refl, slice_index_or}
use Rattle.std.proofs.Common.{◌∙◌}
use Rattle.std.specs.List.{flat_map, AllByRecursion, sum_by}
use Rattle.pool_core.specs.declared.refusals.FrameErr.{FrameErr}
use Rattle.pool_core.specs.declared.refusals.FrameErr.TheVariants as frame
use Rattle.block_pool.specs.Handles.{PoolName, Notes, BlockValue, FrameValue, HasHit}
use Rattle.multiplexer.specs.Sending.{with_sent, IsSentFrom}
use Rattle.multiplexer.specs.declared.post.Post.{Ghosts}
use Rattle.dia_file.specs.Frames.{frame_bytes, frames}
use Rattle.exchange.specs.Limits.{most_packets}
use Rattle.exchange.specs.declared.scatter_err.ScatterErr.{ScatterErr}
use Rattle.exchange.specs.declared.scatter_err.ScatterErr.TheVariants.{Disk, NoMemory, TooManyRows}

-- the blocks sent to a worker
abbrev pub sent_to : List (List BlockValue) → ℕ → List BlockValue
sent_to sent w = slice_index_or sent w []

abbrev pub joined : List BlockValue → List ℕ
joined blocks = flat_map (λ (b : BlockValue). b.bytes) blocks

abbrev pub block_of : FrameValue → BlockValue
block_of f = record { pool = f.pool; bytes = f.bytes }

-- with the frame, if there is one, sent to a worker
abbrev pub with_frame : List (List BlockValue) → ℕ → Option FrameValue → List (List BlockValue)
with_frame sent to None = sent
with_frame sent to (Some f) = with_sent sent to (block_of f)

-- a frame that is written is of this pool, and something is written there
abbrev pub IsOpenIn : PoolName → Option FrameValue → Type 0
IsOpenIn pool None = ⊤
IsOpenIn pool (Some f) = (f.pool ≡ pool) × (0 < length f.bytes)

abbrev pub AreOpenIn : PoolName → List (Option FrameValue) → Type 0
AreOpenIn pool fs = AllByRecursion (IsOpenIn pool) fs

-- how many frames are written
abbrev pub open_frames : List (Option FrameValue) → ℕ
open_frames fs = sum_by frames fs

-- the bytes on their way to a worker: in blocks that were sent, and in the frame that is written
abbrev pub bytes_to : List (List BlockValue) → List (Option FrameValue) → ℕ → List ℕ
bytes_to sent fs w = joined (sent_to sent w) ++ frame_bytes (slice_index_or fs w None)

-- these blocks and no others came behind those that were sent before
pub record SentMore (pool : PoolName) (before : List BlockValue) (now : List BlockValue) : Type 0 where
  pub more : List BlockValue
  pub are : now ≡ before ++ more
  pub good : AllByRecursion (IsSentFrom pool) more

-- Bytes were put on their way to a worker, in at most one block more than they fill.
pub record IsDealt (pool : PoolName) (sent : List (List BlockValue)) (to : ℕ) (f : Option FrameValue) (bytes : List ℕ) (now : List (List BlockValue)) (g : Option FrameValue) : Type 0 where
  pub parts : joined (sent_to now to) ++ frame_bytes g ≡ (joined (sent_to sent to) ++ frame_bytes f) ++ bytes
  pub more : SentMore pool (sent_to sent to) (sent_to now to)
  pub few : length (sent_to now to) ≤ length (sent_to sent to) + most_packets
  pub others : (w : ℕ) → w ≢ to → sent_to now w ≡ sent_to sent w
  pub lanes : length now ≡ length sent

-- a fault of the disk comes only with a hit
abbrev pub RefusesDeal : ScatterErr → Notes → Notes → Type 0
RefusesDeal (Disk count) before after = HasHit before after count
RefusesDeal NoMemory before after = ⊤
RefusesDeal TooManyRows before after = ⊥

abbrev pub frame_refusal : FrameErr → ScatterErr
frame_refusal (frame.Disk count) = Disk count
frame_refusal frame.NoMemory = NoMemory

-- what is sent by is the same
pub record SamePost {P : Type 0} (p : Ghosts P) (before after : P) : Type 0 where
  pub mail : p.mail after ≡ p.mail before
  pub sender : p.sender after ≡ p.sender before
  pub workers : p.workers after ≡ p.workers before

pub same_post : {P : Type 0} (p : Ghosts P) (x : P) → SamePost p x x
same_post p x = record { mail = refl; sender = refl; workers = refl }

pub same_post_too : {P : Type 0} (p : Ghosts P) (x y z : P) → SamePost p x y → SamePost p y z → SamePost p x z
same_post_too p x y z a b = record { mail = b.mail ∙ a.mail; sender = b.sender ∙ a.sender; workers = b.workers ∙ a.workers }

-- what is written for a worker was sent behind what was sent before
pub record IsFinished (pool : PoolName) (sent : List BlockValue) (f : Option FrameValue) (now : List BlockValue) : Type 0 where
  pub bytes : joined now ≡ joined sent ++ frame_bytes f
  pub more : SentMore pool sent now
  pub few : length now ≤ length sent + 1

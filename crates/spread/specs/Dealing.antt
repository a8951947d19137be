-- The parts of a file, sent by one worker to all.
use Rattle.std.specs.Prelude.{◌≡◌, ◌≢◌, ℕ, true, Bool, List, [], ◌∷◌, ◌++◌, Some, All, length, map, slice_get, slice_index_or}
use Rattle.std.specs.List.{flat_map}
use Rattle.row_defs.specs.declared.kind.Kind.{Kind}
use Rattle.row_defs.specs.Rows.{Row}
use Rattle.block_pool.specs.Handles.{BlockValue, HandValue}
use Rattle.dia_file.specs.Encoding.{encoded, AreOf}
use Rattle.dia_file.specs.Files.{FileValue, IsFileOf, joined_blocks, AreFilled}
use Rattle.multiplexer.specs.Sending.{SendValue}
use Rattle.multiplexer.specs.declared.inbox.Inbox.{Inbox}
use Rattle.scatter.specs.Told.{Tells}
use Rattle.arrival_files.specs.Receiving.{HoldAll}

-- the file is of the first hand's pool
pub record IsOfFirst (hands : List HandValue) (f : FileValue) : Type 0 where
  pub hand : HandValue
  pub at : slice_get hands 0 ≡ Some hand
  pub own : IsFileOf hand.pool f

-- these blocks went to a worker, behind those that had been sent to it, and to no other
pub record WentTo (to : ℕ) (blocks : List BlockValue) (before now : SendValue) : Type 0 where
  pub mail : now.mail ≡ before.mail
  pub sender : now.sender ≡ before.sender
  pub lanes : length now.sent ≡ length before.sent
  pub here : slice_index_or now.sent to [] ≡ slice_index_or before.sent to [] ++ blocks
  pub others : (w : ℕ) → w ≢ to → slice_index_or now.sent w [] ≡ slice_index_or before.sent w []

-- a file's blocks hold its rows
pub record IsSpelled (f : FileValue) : Type 0 where
  pub are : AreOf f.kinds f.rows
  pub joined : joined_blocks f.blocks ≡ encoded f.rows
  pub filled : AreFilled f.blocks

-- the blocks of these files went to the workers, of each file to the worker of its rank
pub record AreSent (files : List FileValue) (before now : SendValue) : Type 0 where
  pub mail : now.mail ≡ before.mail
  pub sender : now.sender ≡ before.sender
  pub lanes : length now.sent ≡ length before.sent
  pub sent : (w : ℕ) → slice_index_or now.sent w [] ≡ slice_index_or (map (λ (f : FileValue). f.blocks) files) w []
  pub spelled : All IsSpelled files

-- The rows were dealt out to the workers, as these lists. Where the net and the disks tell, each worker's box holds its list, which
-- came from the first worker.
pub record IsDealtOut (kinds : List Kind) (rows : List Row) (carries : Bool) (hands : List HandValue) (boxes : List Inbox) : Type 0 where
  pub lists : List (List Row)
  pub rows_are : flat_map (λ (list : List Row). list) lists ≡ rows
  pub hold : carries ≡ true → All Tells hands → HoldAll kinds boxes (map (λ (list : List Row). list ∷ []) lists)

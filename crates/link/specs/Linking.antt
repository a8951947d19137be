-- What linking an operand comes to.
use Rattle.std.specs.Prelude.{◌≡◌, ℕ, ◌+◌, ◌<◌, ◌≤◌, true, false, Bool, List, [], length, map, Some, All, slice_get, slice_index_or}
use Rattle.row_defs.specs.declared.kind.Kind.{Kind}
use Rattle.row_defs.specs.Rows.{Row, kinds_of}
use Rattle.row_defs.specs.LocalOps.{LocalOp}
use Rattle.row_defs.specs.Operands.{Root}
use Rattle.block_pool.specs.Handles.{HandValue}
use Rattle.block_pool.specs.declared.pool.TheConstants.{LEAST_BLOCK}
use Rattle.dia_item.specs.declared.row_ref.RowRef.{RowRef}
use Rattle.dia_item.specs.Lent.{row_in_ref}
use Rattle.dia_file.specs.Encoding.{encoded, AreOf}
use Rattle.lop_chain.specs.Ops.{rows_from}
use Rattle.multiplexer.specs.declared.inbox.Inbox.{Inbox}
use Rattle.mix_stream.specs.Packets.{bytes_from}
use Rattle.exchange.specs.Limits.{most_dealt}
use Rattle.exchange.specs.Deals.{AreRouted, rows_to}
use Rattle.exchange.specs.Serving.{Asked, Answered, answers_of}
use Rattle.scatter.specs.Feeds.{FeedValue}
use Rattle.scatter.specs.Lines.{Lines, root_feeds}
use Rattle.scatter.specs.Phases.{AllThree}
use Rattle.scatter.specs.Told.{Tells}

-- the rows that each worker sends: what the local lines make of its part of the root
abbrev pub rows_sent : Lines → ℕ → Root → List LocalOp → List (List Row)
rows_sent lines workers root ops = map (λ (f : FeedValue). rows_from ops f.left) (root_feeds lines workers root false ops)

-- the route may be asked for each row of these kinds at each place, and answers one of so many workers
abbrev pub CanRoute : {F : Type 0} → Asked F → Answered F → List Kind → ℕ → F → Type 0
CanRoute pre post kinds workers route =
    (r : RowRef) (n : ℕ) → kinds_of (row_in_ref r) ≡ kinds → n < most_dealt → pre route r n × ((w : ℕ) → post route r n w → w < workers)

-- the hand has a permit for a frame for each worker and one for the block that is read, and its blocks are no smaller than rows want
abbrev pub HasFrames : ℕ → HandValue → Type 0
HasFrames workers a = (workers + 1 ≤ a.permits) × (LEAST_BLOCK ≤ a.pool.opening.block)

-- a sender's rows, and the workers that its route answered for them, the first at place 0
pub record HasDealt {F : Type 0} (post : Answered F) (kinds : List Kind) (route : F) (rows : List Row) (to : List ℕ) : Type 0 where
  pub routed : AreRouted (answers_of post route) 0 rows to
  pub are : AreOf kinds rows
  pub few : length rows ≤ most_dealt

-- The rows that the senders sent and the workers that their routes answered for them, both by sender. Where the rows are told
-- they are those that are there; where the net tells what it carried and the disks tell, each receiver has of each sender the
-- bytes of just the rows that were routed to it, in their order, and of nobody else any.
pub record IsLinked {F : Type 0} (post : Answered F) (kinds : List Kind) (routes : List F) (sent : List (List Row)) (told : Type 0) (carries : Bool) (hands : List HandValue) (boxes : List Inbox) : Type 0 where
  pub rows : List (List Row)
  pub to : List (List ℕ)
  pub dealt : AllThree (HasDealt post kinds) routes rows to
  pub are_sent : told → rows ≡ sent
  pub bytes : carries ≡ true → All Tells hands → (j k : ℕ) (x : Inbox) → slice_get boxes j ≡ Some x
      → bytes_from k x.packets.items ≡ encoded (rows_to j (slice_index_or rows k []) (slice_index_or to k []))

-- What dealing out operands comes to.
use Rattle.std.specs.Prelude.{◌≡◌, ◌<◌, ◌++◌, ℕ, List, [], length, Some, slice_get}
use Rattle.row_defs.specs.declared.kind.Kind.{Kind}
use Rattle.row_defs.specs.Rows.{Row}
use Rattle.multiplexer.specs.declared.inbox.Inbox.{Inbox}
use Rattle.collective.specs.Shares.{share_of}
use Rattle.dealt_shares.specs.Dealings.{Dealing, dealt, AreOwned}
use Rattle.arrivals.specs.Boxes.{Holds, joined}
use Rattle.dealing.specs.Boxes.{HasCome}

-- These rows, so many, were dealt out to the owners of their positions, which go on from one of so many in all. The boxes hold
-- what came before, and behind it what came of them.
pub record IsDealt (kinds : List Kind) (total workers before count : ℕ) (came : List Dealing) (rows : List Row) (boxes : List Inbox) : Type 0 where
  pub senders : List Dealing
  pub count_is : length rows ≡ count
  pub rows_are : dealt senders ≡ rows
  pub owned : AreOwned total workers before senders
  pub come : HasCome kinds (came ++ senders) boxes

-- the same of the rows of one operand, which each of so many workers sends, where nothing came before
pub record IsDealtByAll (kinds : List Kind) (total workers before count : ℕ) (rows : List Row) (boxes : List Inbox) : Type 0 where
  pub dealt : IsDealt kinds total workers before count [] rows boxes
  pub number : length dealt.senders ≡ workers

-- the packets hold these rows: those of each sender, one sender after the other
pub record HoldsRows (kinds : List Kind) (box : Inbox) (rows : List Row) : Type 0 where
  pub lists : List (List Row)
  pub holds : Holds kinds box.packets.items lists
  pub rows_are : joined lists ≡ rows

-- each worker's box holds its share of the rows
abbrev pub HoldShares : List Kind → ℕ → List Row → List Inbox → Type 0
HoldShares kinds workers rows boxes = (j : ℕ) (x : Inbox) → j < workers → slice_get boxes j ≡ Some x → HoldsRows kinds x (share_of rows workers j)

-- Why there are no files.
use Rattle.std.proofs.Common.{◌≡◌, ℕ, ◌<◌, Bool, true, List, [], ◌∷◌, length, subst, inr}
use Rattle.std.specs.Prelude.{All}
use Rattle.std.specs.List.{AllZip}
use Rattle.row_defs.specs.Limits.{most_rows}
use Rattle.row_defs.specs.declared.kind.Kind.{Kind}
use Rattle.row_defs.specs.Rows.{Row}
use Rattle.row_defs.specs.Operands.{Operand}
use Rattle.block_pool.specs.Handles.{HandValue, Follows}
use Rattle.multiplexer.specs.declared.inbox.Inbox.{Inbox}
use Rattle.scatter.specs.Lines.{Lines}
use Rattle.scatter.specs.Told.{Tells}
use Rattle.scatter.proofs.Hands.{all_tell, hit_since}
use Rattle.link.specs.declared.link_err.LinkErr.{LinkErr}
use Rattle.link.specs.declared.link_err.LinkErr.TheVariants as links
use Rattle.arrival_files.specs.Receiving.{HoldAll, rows_received, ReceiveRefused}
use Rattle.arrival_files.specs.declared.receive_err.ReceiveErr.{ReceiveErr}
use Rattle.arrival_files.specs.declared.receive_err.ReceiveErr.TheVariants as receives
use Rattle.dealing.specs.Operands.{AreUsed, AreSomeUsed, arriving_all}
use Rattle.dealing.specs.Refusals.{DealRefused}
use Rattle.dealt_files.specs.Gathered.{GatherRefused, fault_of_link, fault_of_receiving}

-- all are some
pub used_some : (lines : Lines) (operands : List Operand) (now : Lines) → AreUsed lines operands now → AreSomeUsed lines operands now
used_some lines [] now used = used
used_some lines (o ∷ operands) now used = inr (used.0, used.1, used_some used.0 operands now used.2)

module _ (lines : Lines) (operands : List Operand) (carries : Bool) (faults faults_now : ℕ) (hs bs now : List HandValue) (follows : AllZip Follows hs bs) where
  pub link_fault : (e : LinkErr) → DealRefused carries faults faults_now bs now e → GatherRefused lines operands carries faults faults_now hs now (fault_of_link e)
  link_fault (links.Link count) h = h
  link_fault (links.LinkBytes at) h = h
  link_fault (links.Disk count) h = hit_since hs bs now count follows h
  link_fault links.Damaged h = λ carried tells. h (all_tell hs bs follows tells)
  link_fault links.NoMemory h = tt
  link_fault links.TooManyRows h = λ carried tells. absurd (h (all_tell hs bs follows tells))

  pub receive_fault : (kinds : List Kind) (boxes : List Inbox)
      → (carries ≡ true → All Tells hs → (all : List (List (List Row))) × HoldAll kinds boxes all × (rows_received all ≡ arriving_all lines operands))
      → (e : ReceiveErr) → ReceiveRefused kinds boxes bs now e → GatherRefused lines operands carries faults faults_now hs now (fault_of_receiving e)
  receive_fault kinds boxes held (receives.Disk count) h = hit_since hs bs now count follows h
  receive_fault kinds boxes held receives.Damaged h = λ carried tells. let it = held carried tells in h (all_tell hs bs follows tells) it.0 it.1
  receive_fault kinds boxes held receives.NoMemory h = tt
  receive_fault kinds boxes held receives.TooManyRows h = λ carried tells.
      let it = held carried tells in
      subst (λ (l : List Row). most_rows < length l) it.2 (h (all_tell hs bs follows tells) it.0 it.1)

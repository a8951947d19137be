-- Operands that are read one after the other.
use Rattle.std.specs.Prelude.{◌≡◌, ◌⊎◌, ℕ, ◌+◌, Bool, true, false, List, [], ◌∷◌, All, length, map, sum, ⊤, Vec}
use Rattle.std.specs.declared.alloc.Global.{Global}
use Rattle.std.specs.List.{flat_map}
use Rattle.row_defs.specs.declared.kind.Kind.{Kind}
use Rattle.row_defs.specs.Rows.{Row}
use Rattle.row_defs.specs.LocalOps.{AreSoundOps}
use Rattle.row_defs.specs.Operands.{Root, stored_root, count_root, Operand}
use Rattle.lop_chain.specs.declared.operand.Operand as operands
use Rattle.lop_chain.specs.Operands.{operand_in}
use Rattle.block_pool.specs.Handles.{HandValue}
use Rattle.scatter.specs.Lines.{Lines, HasRoot, root_kinds}
use Rattle.scatter.specs.Phases.{IsUsed}
use Rattle.scatter.specs.Told.{AreTold, arriving}
use Rattle.link.specs.Linking.{rows_sent}

abbrev pub operands_in : List operands.Operand → List Operand
operands_in operands = map operand_in operands

-- the operand's root is there, and its local lines make rows of these kinds of it
pub record IsFed (kinds : List Kind) (lines : Lines) (o : Operand) : Type 0 where
  pub root : HasRoot lines o.root
  pub sound : AreSoundOps (root_kinds lines o.root) o.chain kinds
  pub kinds_are : o.kinds ≡ kinds

-- a use of a root, the last one or not, leaves another root's rows there
abbrev pub LeavesRoot : Root → Bool → Root → Type 0
LeavesRoot (stored_root n) true (stored_root m) = n ≡ m → ⊥
LeavesRoot (stored_root n) true (count_root m rows) = ⊤
LeavesRoot (stored_root n) false root = ⊤
LeavesRoot (count_root n rows) last root = ⊤

abbrev pub Leaves : Operand → Operand → Type 0
Leaves o p = LeavesRoot o.root o.last p.root

-- no operand's root is gone before it is read
abbrev pub AreThereInTurn : List Operand → Type 0
AreThereInTurn [] = ⊤
AreThereInTurn (o ∷ operands) = All (Leaves o) operands × AreThereInTurn operands

-- the lines after the roots of all operands were read, one after the other
abbrev pub AreUsed : Lines → List Operand → Lines → Type 0
AreUsed lines [] now = (n : ℕ) → now n ≡ lines n
AreUsed lines (o ∷ operands) now = (mid : Lines) × IsUsed lines o.root o.last mid × AreUsed mid operands now

-- after those of the first operands, none or more
abbrev pub AreSomeUsed : Lines → List Operand → Lines → Type 0
AreSomeUsed lines [] now = (n : ℕ) → now n ≡ lines n
AreSomeUsed lines (o ∷ operands) now = ((n : ℕ) → now n ≡ lines n) ⊎ ((mid : Lines) × IsUsed lines o.root o.last mid × AreSomeUsed mid operands now)

-- the rows that arrive from all operands
abbrev pub arriving_all : Lines → List Operand → List Row
arriving_all lines operands = flat_map (λ (o : Operand). arriving lines o.root o.chain) operands

-- there is a count for each worker; where its rows are told, they are of the rows that each worker sends
pub record IsCounted (lines : Lines) (workers : ℕ) (hands : List HandValue) (o : Operand) (counts : Vec ℕ Global) : Type 0 where
  pub long : length counts.items ≡ workers
  pub told : AreTold o.root hands → counts.items ≡ map (λ (rows : List Row). length rows) (rows_sent lines workers o.root o.chain)

-- the sum of all counts
abbrev pub count_all : List (Vec ℕ Global) → ℕ
count_all [] = 0
count_all (counts ∷ rest) = sum counts.items + count_all rest

-- how many senders they have, where each is read by so many workers
abbrev pub ranks_of : ℕ → List Operand → ℕ
ranks_of workers [] = 0
ranks_of workers (o ∷ operands) = workers + ranks_of workers operands

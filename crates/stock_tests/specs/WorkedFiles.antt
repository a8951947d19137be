-- Hands and a line of two workers, as tests have them.
use Rattle.std.specs.Prelude.{◌≡◌, ℕ, ◌≤◌, List, [], ◌∷◌, All}
use Rattle.row_defs.specs.declared.kind.Kind.TheVariants.{Int}
use Rattle.row_defs.specs.Operands.{stored_root}
use Rattle.block_pool.specs.Handles.{PoolName, HandValue, PassValue, PermitsValue}
use Rattle.scatter.specs.Lines.{Lines, HasRoot, root_kinds}
use Rattle.scatter.specs.Stocks.{AreInPools}
use Rattle.sink_files.specs.Ending.{HasTwoPermits}

-- shares of this pool, each with two permits
abbrev pub AreReady : PoolName → List (PassValue × PermitsValue) → Type 0
AreReady pool = All (λ (share : PassValue × PermitsValue). (share.0.pool ≡ pool) × (share.1.pool ≡ pool) × (2 ≤ share.1.count))

-- hands of this pool, each with two permits
abbrev pub AreHands : PoolName → List HandValue → Type 0
AreHands pool = All (λ (hand : HandValue). (hand.pool ≡ pool) × HasTwoPermits hand)

-- the line with this number has numbers, and all lines are in these pools
pub record IsStocked (pools : List PoolName) (n : ℕ) (lines : Lines) : Type 0 where
  pub root : HasRoot lines (stored_root n)
  pub kinds : root_kinds lines (stored_root n) ≡ Int ∷ []
  pub own : AreInPools pools lines

-- Hands that a net serves.
use Rattle.std.specs.Prelude.{◌≡◌, ◌≤◌, List, [], ◌∷◌, All}
use Rattle.std.specs.List.{AllZip}
use Rattle.std.proofs.Common.{◌∙◌}
use Rattle.std.proofs.lemmas.List.Elements.{All-nil, All-cons, All-head, All-tail}
use Rattle.block_pool.specs.Handles.{PoolName, HandValue}

-- all are of one pool
pub record AreOfOnePool (hands : List HandValue) : Type 0 where
  pub pool : PoolName
  pub all : All (λ hand. hand.pool ≡ pool) hands

-- a hand of the same pool, with at least as many permits
pub record IsAsGood (before after : HandValue) : Type 0 where
  pub pool : after.pool ≡ before.pool
  pub permits : before.permits ≤ after.permits

abbrev IsIn : PoolName → HandValue → Type 0
IsIn pool hand = hand.pool ≡ pool

all_still : (pool : PoolName) (before after : List HandValue) → AllZip IsAsGood before after → All (IsIn pool) before → All (IsIn pool) after
all_still pool [] [] good all = All-nil (IsIn pool)
all_still pool [] (b ∷ after) good all = absurd good
all_still pool (a ∷ before) [] good all = absurd good
all_still pool (a ∷ before) (b ∷ after) good all =
    let here : b.pool ≡ pool = good.0.pool ∙ All-head (IsIn pool) a before all in
    All-cons (IsIn pool) b after here (all_still pool before after good.1 (All-tail (IsIn pool) a before all))

pub still_of_one_pool : (before after : List HandValue) → AllZip IsAsGood before after → AreOfOnePool before → AreOfOnePool after
still_of_one_pool before after good one = record { pool = one.pool; all = all_still one.pool before after good one.all }

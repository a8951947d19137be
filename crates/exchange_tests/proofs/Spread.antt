-- A file and the parts that it is spread to, as tests have them.
use Rattle.std.proofs.Common.{◌≡◌, ◌<◌, ◌≤◌, List, [], ◌∷◌, length, Some, map, refl, sym, subst, arith}
use Rattle.std.specs.Prelude.{All}
use Rattle.std.specs.List.{AllZip}
use Rattle.std.proofs.lemmas.List.Elements.{All-nil, All-cons, All-head, All-tail}
use Rattle.block_pool.specs.Handles.{PoolName, HandValue}
use Rattle.dia_file.specs.Files.{FileValue, IsFileOf}
use Rattle.scatter.specs.Stocks.{IsPartOf}
use Rattle.scatter.specs.Phases.{pools_of}
use Rattle.spread.specs.Dealing.{IsOfFirst}
use Rattle.exchange_tests.specs.Linked.{AreHands}

abbrev IsHand : PoolName → HandValue → Type 0
IsHand pool hand = (hand.pool ≡ pool) × (3 ≤ hand.permits)

-- a file of the one pool is of the first hand's
pub of_first : (pool : PoolName) (hs : List HandValue) (f : FileValue) → AreHands pool hs → 0 < length hs → IsFileOf pool f → IsOfFirst hs f
of_first pool [] f are some own = absurd (omega (arith, some))
of_first pool (a ∷ hs) f are some own = record { hand = a; at = refl; own = subst (λ (q : PoolName). IsFileOf q f) (sym (All-head (IsHand pool) a hs are).0) own }

-- files of the hands' pools are of the one pool
pub of_one_pool : (pool : PoolName) (hs : List HandValue) (fs : List FileValue) → AreHands pool hs → AllZip IsFileOf (pools_of hs) fs → All (IsPartOf pool) (map (λ (f : FileValue). Some f) fs)
of_one_pool pool [] [] are own = All-nil (IsPartOf pool)
of_one_pool pool [] (f ∷ fs) are own = absurd own
of_one_pool pool (a ∷ hs) [] are own = absurd own
of_one_pool pool (a ∷ hs) (f ∷ fs) are own =
    All-cons (IsPartOf pool) (Some f) (map (λ (f : FileValue). Some f) fs) (subst (λ (q : PoolName). IsFileOf q f) (All-head (IsHand pool) a hs are).0 own.0) (of_one_pool pool hs fs (All-tail (IsHand pool) a hs are) own.1)

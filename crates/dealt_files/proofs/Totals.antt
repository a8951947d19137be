-- Counts of operands, one after the other.
use Rattle.std.proofs.Common.{◌≡◌, ℕ, ◌+◌, ◌<◌, ◌≤◌, List, [], ◌∷◌, ◌++◌, length, map, sum, refl, sym, ap, subst, ◌∙◌, arith, length-append}
use Rattle.std.specs.Prelude.{All, Vec}
use Rattle.std.specs.List.{AllZip, flat_map}
use Rattle.std.specs.declared.alloc.Global.{Global}
use Rattle.std.proofs.lemmas.List.Sums.{sum_by-cons}
use Rattle.row_defs.specs.Limits.{most_rows}
use Rattle.row_defs.specs.Rows.{Row}
use Rattle.row_defs.specs.Operands.{Root, stored_root, count_root, Operand}
use Rattle.block_pool.specs.Handles.{PoolName, HandValue, Follows}
use Rattle.std.proofs.lemmas.List.Elements.{All-nil, All-cons, All-head, All-tail}
use Rattle.scatter.specs.Stocks.{AreInPools}
use Rattle.scatter.specs.Phases.{pools_of}
use Rattle.lop_chain.specs.declared.operand.Operand as operands
use Rattle.lop_chain.specs.Operands.{operand_in}
use Rattle.scatter.specs.Lines.{Lines}
use Rattle.scatter.specs.declared.feed_err.FeedErr.{FeedErr}
use Rattle.scatter.specs.declared.feed_err.FeedErr.TheVariants.{Sink, Disk, Damaged, NoMemory}
use Rattle.scatter.specs.Told.{Tells, AreTold, HasPermit, arriving}
use Rattle.scatter.proofs.Hands.{all_tell, hit_since}
use Rattle.feed_actions.specs.Counting.{CountRefused}
use Rattle.feed_actions.specs.declared.counter.TooManyRows.{TooManyRows}
use Rattle.link.specs.Linking.{rows_sent, HasFrames}
use Rattle.sink_files.specs.Ending.{HasTwoPermits}
use Rattle.dealing.specs.Operands.{operands_in, IsCounted, arriving_all}
use Rattle.dealing.proofs.Linked.{told_by}
use Rattle.dealt_files.specs.Counted.{AreCounted}
use Rattle.dealt_files.specs.Gathered.{CountFault}

-- hands that went on tell where they did before
told_after : (root : Root) (hs bs : List HandValue) → AllZip Follows hs bs → AreTold root hs → AreTold root bs
told_after (stored_root n) hs bs follows told = all_tell hs bs follows told
told_after (count_root n rows) hs bs follows told = tt

each_before : (lines : Lines) (workers : ℕ) (hs bs : List HandValue) → AllZip Follows hs bs → (operands : List Operand) (counts : List (Vec ℕ Global))
    → AllZip (IsCounted lines workers bs) operands counts → AllZip (IsCounted lines workers hs) operands counts
each_before lines workers hs bs follows [] [] all = tt
each_before lines workers hs bs follows [] (ns ∷ counts) all = absurd all
each_before lines workers hs bs follows (o ∷ operands) [] all = absurd all
each_before lines workers hs bs follows (o ∷ operands) (ns ∷ counts) all =
    let here : IsCounted lines workers hs o ns = record { long = all.0.long; told = λ told. all.0.told (told_after o.root hs bs follows told) } in
    (here, each_before lines workers hs bs follows operands counts all.1)

lengths : (rows : List (List Row)) → length (flat_map (λ (rs : List Row). rs) rows) ≡ sum (map (λ (rs : List Row). length rs) rows)
lengths [] = refl
lengths (rs ∷ rows) =
    let two = length-append rs (flat_map (λ (rs : List Row). rs) rows) in
    let more : sum (length rs ∷ map (λ (rs : List Row). length rs) rows) ≡ length rs + sum (map (λ (rs : List Row). length rs) rows) = sum_by-cons (λ n. n) (length rs) (map (λ (rs : List Row). length rs) rows) in
    let rest = lengths rows in
    omega (arith, two, more, rest)

-- hands with their permits still have one each
pub permit_still : (hs bs : List HandValue) → AllZip (λ (a b : HandValue). b.permits ≡ a.permits) hs bs → All HasPermit hs → All HasPermit bs
permit_still [] [] same all = All-nil HasPermit
permit_still [] (b ∷ bs) same all = absurd same
permit_still (a ∷ hs) [] same all = absurd same
permit_still (a ∷ hs) (b ∷ bs) same all =
    let is = same.0 in
    let has = All-head HasPermit a hs all in
    All-cons HasPermit b bs (omega (arith, is, has)) (permit_still hs bs same.1 (All-tail HasPermit a hs all))

-- hands that went on are of the same pools
pub same_pools : (hs bs : List HandValue) → AllZip Follows hs bs → pools_of bs ≡ pools_of hs
same_pools [] [] all = refl
same_pools [] (b ∷ bs) all = absurd all
same_pools (a ∷ hs) [] all = absurd all
same_pools (a ∷ hs) (b ∷ bs) all = ap (λ (p : PoolName). p ∷ pools_of bs) all.0.pool ∙ ap (λ (ps : List PoolName). a.pool ∷ ps) (same_pools hs bs all.1)

pub own_still : (hs bs : List HandValue) (lines now : Lines) → AllZip Follows hs bs → now ≡ lines → AreInPools (pools_of hs) lines → AreInPools (pools_of bs) now
own_still hs bs lines now follows same own =
    subst (λ (ps : List PoolName). AreInPools ps now) (sym (same_pools hs bs follows)) (subst (λ (l : Lines). AreInPools (pools_of hs) l) (sym same) own)

-- no operands
pub counted_none : (lines : Lines) (workers : ℕ) (hands : List HandValue) (all : List operands.Operand) → length all ≡ 0 → AreCounted lines workers hands (operands_in all) [] 0
counted_none lines workers hands [] is = record { each = tt; total_is = refl; few = omega arith; arrive = λ tells. refl }
counted_none lines workers hands (o ∷ all) is = absurd (omega (arith, is))

module _ (all : List operands.Operand) (o : operands.Operand) (os : List operands.Operand) (is : all ≡ o ∷ os) (lines mid : Lines) (same : mid ≡ lines) (workers : ℕ) (hs bs : List HandValue) (follows : AllZip Follows hs bs) where
  module _ (joined : flat_map (λ (rs : List Row). rs) (rows_sent lines workers (operand_in o).root (operand_in o).chain) ≡ arriving lines (operand_in o).root (operand_in o).chain)
      (ns : Vec ℕ Global) (here : IsCounted lines workers hs (operand_in o) ns) where
    -- as many rows arrive as were counted
    arrived : All Tells hs → length (arriving lines (operand_in o).root (operand_in o).chain) ≡ sum ns.items
    arrived tells =
        ap (λ (l : List Row). length l) (sym joined) ∙ lengths (rows_sent lines workers (operand_in o).root (operand_in o).chain) ∙ ap sum (sym (here.told (told_by (operand_in o).root hs tells)))

    arrived_all : (total : ℕ) → (All Tells bs → total ≡ length (arriving_all mid (operands_in os))) → All Tells hs → length (arriving_all lines (operands_in all)) ≡ sum ns.items + total
    arrived_all total rest tells =
        let first = arrived tells in
        let more : total ≡ length (arriving_all lines (operands_in os)) = rest (all_tell hs bs follows tells) ∙ ap (λ (l : Lines). length (arriving_all l (operands_in os))) same in
        let two = length-append (arriving lines (operand_in o).root (operand_in o).chain) (arriving_all lines (operands_in os)) in
        let parts : length (arriving_all lines (operands_in all)) ≡ length (arriving lines (operand_in o).root (operand_in o).chain ++ arriving_all lines (operands_in os))
        = ap (λ (l : List operands.Operand). length (arriving_all lines (operands_in l))) is in
        omega (arith, first, more, two, parts)

    -- one more operand is counted
    pub counted_more : (counts : List (Vec ℕ Global)) (total : ℕ) → AreCounted mid workers bs (operands_in os) counts total → sum ns.items + total ≤ most_rows
        → AreCounted lines workers hs (operands_in all) (ns ∷ counts) (sum ns.items + total)
    counted_more counts total c few =
        let each : AllZip (IsCounted lines workers bs) (operands_in os) counts = subst (λ (l : Lines). AllZip (IsCounted l workers bs) (operands_in os) counts) same c.each in
        let both : AllZip (IsCounted lines workers hs) (operand_in o ∷ operands_in os) (ns ∷ counts) = (here, each_before lines workers hs bs follows (operands_in os) counts each) in
        record {
          each = subst (λ (l : List operands.Operand). AllZip (IsCounted lines workers hs) (operands_in l) (ns ∷ counts)) (sym is) both;
          total_is = ap (λ (n : ℕ). sum ns.items + n) c.total_is;
          few = few;
          arrive = λ tells. sym (arrived_all total c.arrive tells);
        }

    -- they are too many
    pub many : (total : ℕ) → (All Tells bs → total ≡ length (arriving_all mid (operands_in os))) → most_rows < sum ns.items + total → All Tells hs → most_rows < length (arriving_all lines (operands_in all))
    many total rest more tells = let all_of = arrived_all total rest tells in omega (arith, more, all_of)

  -- a fault at an operand behind the first one
  pub fault_later : (now : List HandValue) (e : FeedErr TooManyRows) → CountFault mid (operands_in os) bs now e → CountFault lines (operands_in all) hs now e
  fault_later now (Sink e) h = λ tells.
      let many_of : most_rows < length (arriving_all lines (operands_in os)) = subst (λ (l : Lines). most_rows < length (arriving_all l (operands_in os))) same (h (all_tell hs bs follows tells)) in
      let two = length-append (arriving lines (operand_in o).root (operand_in o).chain) (arriving_all lines (operands_in os)) in
      let parts : length (arriving_all lines (operands_in all)) ≡ length (arriving lines (operand_in o).root (operand_in o).chain ++ arriving_all lines (operands_in os))
      = ap (λ (l : List operands.Operand). length (arriving_all lines (operands_in l))) is in
      omega (arith, many_of, two, parts)
  fault_later now (Disk count) h = hit_since hs bs now count follows h
  fault_later now Damaged h = λ tells. h (all_tell hs bs follows tells)
  fault_later now NoMemory h = tt

-- a fault at the first one
pub fault_first : (all : List operands.Operand) (o : operands.Operand) (os : List operands.Operand) → all ≡ o ∷ os → (lines : Lines) (hands now : List HandValue) (e : FeedErr TooManyRows)
    → CountRefused lines (operand_in o).root (operand_in o).chain hands now e → CountFault lines (operands_in all) hands now e
fault_first all o os is lines hands now (Sink e) h = λ tells.
    let many_of = h (told_by (operand_in o).root hands tells) in
    let two = length-append (arriving lines (operand_in o).root (operand_in o).chain) (arriving_all lines (operands_in os)) in
    let parts : length (arriving_all lines (operands_in all)) ≡ length (arriving lines (operand_in o).root (operand_in o).chain ++ arriving_all lines (operands_in os))
    = ap (λ (l : List operands.Operand). length (arriving_all lines (operands_in l))) is in
    omega (arith, many_of, two, parts)
fault_first all o os is lines hands now (Disk count) h = h
fault_first all o os is lines hands now Damaged h = h
fault_first all o os is lines hands now NoMemory h = tt

-- hands that went on tell only where they did before
told_back : (root : Root) (hs bs : List HandValue) → AllZip Follows hs bs → AreTold root bs → AreTold root hs
told_back (stored_root n) hs bs follows told = back hs bs follows told
  where
    back : (hs bs : List HandValue) → AllZip Follows hs bs → All Tells bs → All Tells hs
    back [] [] all tells = All-nil Tells
    back [] (b ∷ bs) all tells = absurd all
    back (a ∷ hs) [] all tells = absurd all
    back (a ∷ hs) (b ∷ bs) all tells =
        All-cons Tells a hs (ap (λ (pool : PoolName). pool.opening.tells) (sym all.0.pool) ∙ All-head Tells b bs tells) (back hs bs all.1 (All-tail Tells b bs tells))
told_back (count_root n rows) hs bs follows told = tt

pub each_after : (lines now : Lines) → now ≡ lines → (workers : ℕ) (hs bs : List HandValue) → AllZip Follows hs bs → (operands : List Operand) (counts : List (Vec ℕ Global))
    → AllZip (IsCounted lines workers hs) operands counts → AllZip (IsCounted now workers bs) operands counts
each_after lines now same workers hs bs follows operands counts all =
    subst (λ (l : Lines). AllZip (IsCounted l workers bs) operands counts) (sym same) (on operands counts all)
  where
    on : (operands : List Operand) (counts : List (Vec ℕ Global)) → AllZip (IsCounted lines workers hs) operands counts → AllZip (IsCounted lines workers bs) operands counts
    on [] [] all = tt
    on [] (ns ∷ counts) all = absurd all
    on (o ∷ operands) [] all = absurd all
    on (o ∷ operands) (ns ∷ counts) all =
        let here : IsCounted lines workers bs o ns = record { long = all.0.long; told = λ told. all.0.told (told_back o.root hs bs follows told) } in
        (here, on operands counts all.1)

-- a worker's permits are two at least
pub two_permits : (workers : ℕ) (hands : List HandValue) → 0 < workers → All (HasFrames workers) hands → All HasTwoPermits hands
two_permits workers [] some all = All-nil HasTwoPermits
two_permits workers (a ∷ hands) some all =
    let has = (All-head (HasFrames workers) a hands all).0 in
    All-cons HasTwoPermits a hands (omega (arith, has, some)) (two_permits workers hands some (All-tail (HasFrames workers) a hands all))

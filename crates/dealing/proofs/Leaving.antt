-- Operands whose roots stay while others are read.
use Rattle.std.proofs.Common.{◌≡◌, ℕ, Bool, true, false, List, [], ◌∷◌, ◌++◌, Option, None, Some, map, length, refl, sym, ap, subst, ◌∙◌, inl, inr}
use Rattle.std.specs.Prelude.{All, Vec}
use Rattle.std.specs.List.{AllZip}
use Rattle.std.specs.declared.alloc.Global.{Global}
use Rattle.std.proofs.lemmas.List.Elements.{All-nil, All-cons, All-head, All-tail}
use Rattle.row_defs.specs.declared.kind.Kind.{Kind}
use Rattle.row_defs.specs.Rows.{Row}
use Rattle.row_defs.specs.LocalOps.{LocalOp, AreSoundOps}
use Rattle.row_defs.specs.Operands.{Root, stored_root, count_root, Operand}
use Rattle.block_pool.specs.Handles.{PoolName, HandValue, Follows}
use Rattle.lop_chain.specs.Ops.{rows_from}
use Rattle.scatter.specs.Feeds.{FeedValue}
use Rattle.scatter.specs.Lines.{LineValue, Lines, HasRoot, root_kinds, root_rows, root_feeds}
use Rattle.scatter.specs.Stocks.{AreInPools}
use Rattle.scatter.specs.Phases.{IsUsed, pools_of}
use Rattle.scatter.specs.Told.{Tells, AreTold, arriving}
use Rattle.link.specs.Linking.{rows_sent}
use Rattle.dealing.specs.Operands.{IsFed, LeavesRoot, Leaves, IsCounted, arriving_all}

-- the line is as it was where a use leaves its root
line_stays : (lines now : Lines) (root : Root) (last : Bool) (m : ℕ) → LeavesRoot root last (stored_root m) → IsUsed lines root last now → now m ≡ lines m
line_stays lines now (stored_root n) true m leaves used = elim (used.others m) [
  | inl same ↦ absurd (leaves (sym same))
  | inr stays ↦ stays
]
line_stays lines now (stored_root n) false m leaves used = used m
line_stays lines now (count_root n rows) last m leaves used = used m

module _ (lines now : Lines) where
  -- what is said of a root stands where its line is as it was
  abbrev Stays : Root → Type 0
  Stays (stored_root m) = now m ≡ lines m
  Stays (count_root m rows) = Unit {0}

  stays : (root : Root) (last : Bool) (p : Root) → LeavesRoot root last p → IsUsed lines root last now → Stays p
  stays root last (stored_root m) leaves used = line_stays lines now root last m leaves used
  stays root last (count_root m rows) leaves used = tt

  root_still : (p : Root) → Stays p → HasRoot lines p → HasRoot now p
  root_still (stored_root m) same has = record { line = has.line; there = same ∙ has.there; whole = has.whole }
  root_still (count_root m rows) same has = tt

  kinds_still : (p : Root) → Stays p → root_kinds now p ≡ root_kinds lines p
  kinds_still (stored_root m) same = ap (λ (line : Option LineValue). root_kinds (λ n. line) (stored_root m)) same
  kinds_still (count_root m rows) same = refl

  rows_still : (p : Root) → Stays p → root_rows now p ≡ root_rows lines p
  rows_still (stored_root m) same = ap (λ (line : Option LineValue). root_rows (λ n. line) (stored_root m)) same
  rows_still (count_root m rows) same = refl

  feeds_still : (workers : ℕ) (p : Root) (ops : List LocalOp) → Stays p → root_feeds now workers p false ops ≡ root_feeds lines workers p false ops
  feeds_still workers (stored_root m) ops same = ap (λ (line : Option LineValue). root_feeds (λ n. line) workers (stored_root m) false ops) same
  feeds_still workers (count_root m rows) ops same = refl

  fed_still : (kinds : List Kind) (p : Operand) → Stays p.root → IsFed kinds lines p → IsFed kinds now p
  fed_still kinds p same fed = record {
    root = root_still p.root same fed.root;
    sound = subst (λ ks. AreSoundOps ks p.chain kinds) (sym (kinds_still p.root same)) fed.sound;
    kinds_are = fed.kinds_are;
  }

  sent_still : (workers : ℕ) (p : Operand) → Stays p.root → rows_sent now workers p.root p.chain ≡ rows_sent lines workers p.root p.chain
  sent_still workers p same = ap (map (λ (f : FeedValue). rows_from p.chain f.left)) (feeds_still workers p.root p.chain same)

  arriving_still : (p : Operand) → Stays p.root → arriving now p.root p.chain ≡ arriving lines p.root p.chain
  arriving_still p same = ap (rows_from p.chain) (rows_still p.root same)

  module _ (o : Operand) (used : IsUsed lines o.root o.last now) where
    pub all_fed : (kinds : List Kind) (operands : List Operand) → All (Leaves o) operands → All (IsFed kinds lines) operands → All (IsFed kinds now) operands
    all_fed kinds [] leaves fed = All-nil (IsFed kinds now)
    all_fed kinds (p ∷ operands) leaves fed =
        let same : Stays p.root = stays o.root o.last p.root (All-head (Leaves o) p operands leaves) used in
        All-cons (IsFed kinds now) p operands (fed_still kinds p same (All-head (IsFed kinds lines) p operands fed))
        (all_fed kinds operands (All-tail (Leaves o) p operands leaves) (All-tail (IsFed kinds lines) p operands fed))

    pub all_arriving : (operands : List Operand) → All (Leaves o) operands → arriving_all now operands ≡ arriving_all lines operands
    all_arriving [] leaves = refl
    all_arriving (p ∷ operands) leaves =
        let same : Stays p.root = stays o.root o.last p.root (All-head (Leaves o) p operands leaves) used in
        ap (λ (rows : List Row). rows ++ arriving_all now operands) (arriving_still p same)
        ∙ ap (λ (rows : List Row). arriving lines p.root p.chain ++ rows) (all_arriving operands (All-tail (Leaves o) p operands leaves))

    -- hands that went on tell only where they did before
    told_before : (root : Root) (hs bs : List HandValue) → AllZip Follows hs bs → AreTold root bs → AreTold root hs
    told_before (stored_root m) hs bs follows told = back hs bs follows told
      where
        back : (hs bs : List HandValue) → AllZip Follows hs bs → All Tells bs → All Tells hs
        back [] [] all tells = All-nil Tells
        back [] (b ∷ bs) all tells = absurd all
        back (a ∷ hs) [] all tells = absurd all
        back (a ∷ hs) (b ∷ bs) all tells =
            All-cons Tells a hs (ap (λ (pool : PoolName). pool.opening.tells) (sym all.0.pool) ∙ All-head Tells b bs tells) (back hs bs all.1 (All-tail Tells b bs tells))
    told_before (count_root m rows) hs bs follows told = tt

    pub all_counted : (workers : ℕ) (hs bs : List HandValue) → AllZip Follows hs bs → (operands : List Operand) (counts : List (Vec ℕ Global)) → All (Leaves o) operands
        → AllZip (IsCounted lines workers hs) operands counts → AllZip (IsCounted now workers bs) operands counts
    all_counted workers hs bs follows [] [] leaves all = tt
    all_counted workers hs bs follows (p ∷ operands) (ns ∷ counts) leaves all =
        let same : Stays p.root = stays o.root o.last p.root (All-head (Leaves o) p operands leaves) used in
        let here : IsCounted now workers bs p ns = record {
          long = all.0.long;
          told = λ told. all.0.told (told_before p.root hs bs follows told) ∙ ap (map (λ (rows : List Row). length rows)) (sym (sent_still workers p same));
        } in
        (here, all_counted workers hs bs follows operands counts (All-tail (Leaves o) p operands leaves) all.1)
    all_counted workers hs bs follows [] (ns ∷ counts) leaves all = absurd all
    all_counted workers hs bs follows (p ∷ operands) [] leaves all = absurd all

-- the lines that are left are still in the pools of the hands
own_after : (pools : List PoolName) (lines now : Lines) (root : Root) (last : Bool) → IsUsed lines root last now → AreInPools pools lines → AreInPools pools now
own_after pools lines now (stored_root n) true used own = λ m line at. elim (used.others m) [
  | inl same ↦ let none : None ≡ Some line = sym used.here ∙ ap now (sym same) ∙ at in cc
  | inr stays ↦ own m line (sym stays ∙ at)
]
own_after pools lines now (stored_root n) false used own = λ m line at. own m line (sym (used m) ∙ at)
own_after pools lines now (count_root n rows) last used own = λ m line at. own m line (sym (used m) ∙ at)

same_pools : (hs bs : List HandValue) → AllZip Follows hs bs → pools_of bs ≡ pools_of hs
same_pools [] [] all = refl
same_pools [] (b ∷ bs) all = absurd all
same_pools (a ∷ hs) [] all = absurd all
same_pools (a ∷ hs) (b ∷ bs) all = ap (λ (p : PoolName). p ∷ pools_of bs) all.0.pool ∙ ap (λ (ps : List PoolName). a.pool ∷ ps) (same_pools hs bs all.1)

pub own_later : (hs bs : List HandValue) (lines now : Lines) (root : Root) (last : Bool) → AllZip Follows hs bs → IsUsed lines root last now → AreInPools (pools_of hs) lines → AreInPools (pools_of bs) now
own_later hs bs lines now root last follows used own = subst (λ pools. AreInPools pools now) (sym (same_pools hs bs follows)) (own_after (pools_of hs) lines now root last used own)

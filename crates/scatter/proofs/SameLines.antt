-- Lines and hands after a phase that left the lines as they were.
use Rattle.std.proofs.Common.{◌≡◌, ℕ, Bool, true, false, List, [], ◌∷◌, inl, inr, refl, sym, ap, ◌∙◌}
use Rattle.std.specs.Prelude.{All}
use Rattle.std.specs.List.{AllZip}
use Rattle.std.proofs.lemmas.List.Elements.{All-nil, All-cons, All-head, All-tail}
use Rattle.row_defs.specs.LocalOps.{LocalOp}
use Rattle.row_defs.specs.Operands.{Root, stored_root, count_root}
use Rattle.block_pool.specs.Handles.{PoolName, HandValue, Follows}
use Rattle.scatter.specs.Lines.{Lines, HasRoot, root_kinds, root_rows}
use Rattle.lop_chain.specs.Ops.{rows_from}
use Rattle.scatter.specs.Stocks.{AreInPools}
use Rattle.scatter.specs.Phases.{IsUsed, pools_of}
use Rattle.scatter.specs.Told.{Tells, AreTold, HasPermit, arriving}
use Rattle.scatter.proofs.Hands.{all_tell}

abbrev SamePermits : HandValue → HandValue → Type 0
SamePermits a b = b.permits ≡ a.permits

-- lines -------------------------------------------------------------------------------------------------------------------

pub each_line : (lines now : Lines) (root : Root) → IsUsed lines root false now → (m : ℕ) → now m ≡ lines m
each_line lines now (stored_root n) used = used
each_line lines now (count_root n rows) used = used

pub still_used : (lines : Lines) (root : Root) → IsUsed lines root false lines
still_used lines (stored_root n) = λ m. refl
still_used lines (count_root n rows) = λ m. refl

module _ (lines now : Lines) (same : (m : ℕ) → now m ≡ lines m) where
  pub root_there : (root : Root) → HasRoot lines root → HasRoot now root
  root_there (stored_root n) has = record { line = has.line; there = same n ∙ has.there; whole = has.whole }
  root_there (count_root n rows) has = tt

  pub kinds_still : (root : Root) → root_kinds now root ≡ root_kinds lines root
  kinds_still (stored_root n) = rw (same n) refl
  kinds_still (count_root n rows) = refl

  rows_still : (root : Root) → root_rows now root ≡ root_rows lines root
  rows_still (stored_root n) = rw (same n) refl
  rows_still (count_root n rows) = refl

  pub arriving_still : (root : Root) (ops : List LocalOp) → arriving now root ops ≡ arriving lines root ops
  arriving_still root ops = ap (rows_from ops) (rows_still root)

  pub pools_still : (pools : List PoolName) → AreInPools pools lines → AreInPools pools now
  pools_still pools all = λ n line there. all n line (sym (same n) ∙ there)

  pub used_since : (root : Root) (last : Bool) (later : Lines) → IsUsed now root last later → IsUsed lines root last later
  used_since (stored_root n) true later used = record {
    here = used.here;
    others = λ m. elim (used.others m) [ inl is ↦ inl is | inr other ↦ inr (other ∙ same m) ];
  }
  used_since (stored_root n) false later used = λ m. used m ∙ same m
  used_since (count_root n rows) last later used = λ m. used m ∙ same m

-- hands -------------------------------------------------------------------------------------------------------------------

pub same_pools : (hs bs : List HandValue) → AllZip Follows hs bs → pools_of bs ≡ pools_of hs
same_pools [] [] all = refl
same_pools [] (b ∷ bs) all = absurd all
same_pools (a ∷ hs) [] all = absurd all
same_pools (a ∷ hs) (b ∷ bs) all = let here = all.0.pool in let rest = same_pools hs bs all.1 in cc

pub still_permits : (hs bs : List HandValue) → AllZip SamePermits hs bs → All HasPermit hs → All HasPermit bs
still_permits [] [] all permits = All-nil HasPermit
still_permits [] (b ∷ bs) all permits = absurd all
still_permits (a ∷ hs) [] all permits = absurd all
still_permits (a ∷ hs) (b ∷ bs) all permits =
    All-cons HasPermit b bs (rw all.0 (All-head HasPermit a hs permits)) (still_permits hs bs all.1 (All-tail HasPermit a hs permits))

pub told_still : (root : Root) (hs bs : List HandValue) → AllZip Follows hs bs → AreTold root hs → AreTold root bs
told_still (stored_root n) hs bs all told = all_tell hs bs all told
told_still (count_root n rows) hs bs all told = tt

told_before : (hs bs : List HandValue) → AllZip Follows hs bs → All Tells bs → All Tells hs
told_before [] [] all tells = All-nil Tells
told_before [] (b ∷ bs) all tells = absurd all
told_before (a ∷ hs) [] all tells = absurd all
told_before (a ∷ hs) (b ∷ bs) all tells =
    All-cons Tells a hs (ap (λ (pool : PoolName). pool.opening.tells) (sym all.0.pool) ∙ All-head Tells b bs tells) (told_before hs bs all.1 (All-tail Tells b bs tells))

pub told_back : (root : Root) (hs bs : List HandValue) → AllZip Follows hs bs → AreTold root bs → AreTold root hs
told_back (stored_root n) hs bs all told = told_before hs bs all told
told_back (count_root n rows) hs bs all told = tt

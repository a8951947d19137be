-- The first of operands, and those behind it.
use Rattle.std.proofs.Common.{◌≡◌, ℕ, ◌+◌, List, [], ◌∷◌, ◌++◌, length, sum, refl, sym, ap, subst, inl, inr, append-nil, arith}
use Rattle.std.specs.Prelude.{All, Vec, ◌⊎◌}
use Rattle.std.specs.List.{AllZip}
use Rattle.std.specs.declared.alloc.Global.{Global}
use Rattle.std.proofs.lemmas.List.Elements.{All-head, All-tail}
use Rattle.row_defs.specs.declared.kind.Kind.{Kind}
use Rattle.row_defs.specs.Operands.{Operand}
use Rattle.block_pool.specs.Handles.{HandValue}
use Rattle.lop_chain.specs.declared.operand.Operand as operands
use Rattle.lop_chain.specs.Operands.{operand_in}
use Rattle.multiplexer.specs.declared.inbox.Inbox.{Inbox}
use Rattle.scatter.specs.Lines.{Lines}
use Rattle.scatter.specs.Phases.{IsUsed}
use Rattle.scatter.specs.Told.{arriving}
use Rattle.dealt_shares.specs.Dealings.{Dealing}
use Rattle.dealing.specs.Operands.{operands_in, IsFed, Leaves, AreThereInTurn, AreUsed, AreSomeUsed, arriving_all, IsCounted, count_all, ranks_of}
use Rattle.dealing.specs.Boxes.{HasCome}
use Rattle.dealing.specs.Deals.{IsDealt}

-- none was read
pub none_used : (lines : Lines) (operands : List Operand) → AreSomeUsed lines operands lines
none_used lines [] = λ n. refl
none_used lines (p ∷ operands) = inl (λ n. refl)

module _ (all : List operands.Operand) (o : operands.Operand) (os : List operands.Operand) (is : all ≡ o ∷ os) where
  pub fed_first : (kinds : List Kind) (lines : Lines) → All (IsFed kinds lines) (operands_in all) → IsFed kinds lines (operand_in o) × All (IsFed kinds lines) (operands_in os)
  fed_first kinds lines h =
      let both : All (IsFed kinds lines) (operand_in o ∷ operands_in os) = subst (λ (l : List operands.Operand). All (IsFed kinds lines) (operands_in l)) is h in
      (All-head (IsFed kinds lines) (operand_in o) (operands_in os) both, All-tail (IsFed kinds lines) (operand_in o) (operands_in os) both)

  pub in_turn_first : AreThereInTurn (operands_in all) → All (Leaves (operand_in o)) (operands_in os) × AreThereInTurn (operands_in os)
  in_turn_first h = subst (λ (l : List operands.Operand). AreThereInTurn (operands_in l)) is h

  pub ranks_first : (workers : ℕ) → ranks_of workers (operands_in all) ≡ workers + ranks_of workers (operands_in os)
  ranks_first workers = ap (λ (l : List operands.Operand). ranks_of workers (operands_in l)) is

  pub arriving_first : (lines : Lines) → arriving_all lines (operands_in all) ≡ arriving lines (operand_in o).root (operand_in o).chain ++ arriving_all lines (operands_in os)
  arriving_first lines = ap (λ (l : List operands.Operand). arriving_all lines (operands_in l)) is

  pub counted_first : (lines : Lines) (workers : ℕ) (hands : List HandValue) (counts : List (Vec ℕ Global)) (ns : Vec ℕ Global) (rest : List (Vec ℕ Global)) → counts ≡ ns ∷ rest
      → AllZip (IsCounted lines workers hands) (operands_in all) counts → IsCounted lines workers hands (operand_in o) ns × AllZip (IsCounted lines workers hands) (operands_in os) rest
  counted_first lines workers hands counts ns rest same h =
      subst (λ (l : List (Vec ℕ Global)). AllZip (IsCounted lines workers hands) (operand_in o ∷ operands_in os) l) same
      (subst (λ (l : List operands.Operand). AllZip (IsCounted lines workers hands) (operands_in l) counts) is h)

  pub counted_not : (lines : Lines) (workers : ℕ) (hands : List HandValue) (counts : List (Vec ℕ Global)) → length counts ≡ 0 → AllZip (IsCounted lines workers hands) (operands_in all) counts → ⊥
  counted_not lines workers hands [] none h = subst (λ (l : List operands.Operand). AllZip (IsCounted lines workers hands) (operands_in l) []) is h
  counted_not lines workers hands (ns ∷ counts) none h = absurd (omega (arith, none))

  pub used_more : (lines mid now : Lines) → IsUsed lines (operand_in o).root (operand_in o).last mid → AreUsed mid (operands_in os) now → AreUsed lines (operands_in all) now
  used_more lines mid now first rest = subst (λ (l : List operands.Operand). AreUsed lines (operands_in l) now) (sym is) (mid, first, rest)

  pub some_more : (lines mid now : Lines) → IsUsed lines (operand_in o).root (operand_in o).last mid → AreSomeUsed mid (operands_in os) now → AreSomeUsed lines (operands_in all) now
  some_more lines mid now first rest = subst (λ (l : List operands.Operand). AreSomeUsed lines (operands_in l) now) (sym is) (inr (mid, first, rest))

  -- the first one was used, or none was
  pub some_first : (lines now : Lines) → IsUsed lines (operand_in o).root (operand_in o).last now ⊎ (now ≡ lines) → AreSomeUsed lines (operands_in all) now
  some_first lines now (inl used) = some_more lines now now used (none_used now (operands_in os))
  some_first lines now (inr same) = subst (λ (l : List operands.Operand). AreSomeUsed lines (operands_in l) now) (sym is) (inl (λ n. ap (λ (f : Lines). f n) same))

pub count_first : (counts : List (Vec ℕ Global)) (ns : Vec ℕ Global) (rest : List (Vec ℕ Global)) → counts ≡ ns ∷ rest → count_all counts ≡ sum ns.items + count_all rest
count_first counts ns rest is = ap count_all is

-- no operands
pub none_dealt : (kinds : List Kind) (total workers before : ℕ) (lines : Lines) (hands : List HandValue) (operands : List operands.Operand) (counts : List (Vec ℕ Global)) (came : List Dealing) (boxes : List Inbox)
    → length operands ≡ 0 → AllZip (IsCounted lines workers hands) (operands_in operands) counts → HasCome kinds came boxes
    → IsDealt kinds total workers before (count_all counts) came (arriving_all lines (operands_in operands)) boxes
none_dealt kinds total workers before lines hands [] [] came boxes is all come = record {
  senders = [];
  count_is = refl;
  rows_are = refl;
  owned = tt;
  come = subst (λ (l : List Dealing). HasCome kinds l boxes) (sym (append-nil came)) come;
}
none_dealt kinds total workers before lines hands [] (ns ∷ counts) came boxes is all come = absurd all
none_dealt kinds total workers before lines hands (o ∷ operands) counts came boxes is all come = absurd (omega (arith, is))

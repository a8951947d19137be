-- Hands and lines before and after a node.
use Rattle.std.proofs.Common.{◌≡◌, ℕ, ◌≤◌, false, List, [], ◌∷◌, map, length, Some, None, refl, sym, ap, subst, ◌∙◌, arith}
use Rattle.std.specs.Prelude.{All}
use Rattle.std.specs.List.{AllZip}
use Rattle.std.proofs.lemmas.List.Elements.{All-nil, All-cons, All-head, All-tail}
use Rattle.row_defs.specs.declared.kind.Kind.{Kind}
use Rattle.row_defs.specs.declared.kind.Kind.TheVariants.{Int}
use Rattle.row_defs.specs.Operands.{stored_root}
use Rattle.block_pool.specs.Handles.{PoolName, HandValue, Follows}
use Rattle.dia_file.specs.Files.{FileValue}
use Rattle.lop_chain.specs.declared.operand.Root as roots
use Rattle.lop_chain.specs.declared.operand.Root.TheVariants.{Stored}
use Rattle.lop_chain.specs.Operands.{root_in}
use Rattle.scatter.specs.Lines.{Lines, Sets, HasKinds, first_kinds, kinds_of_line}
use Rattle.scatter.specs.Stocks.{AreInPools, IsPartOf}
use Rattle.scatter.specs.Phases.{IsUsed, pools_of}
use Rattle.sink_files.specs.Ending.{HasTwoPermits}
use Rattle.stock_tests.specs.WorkedFiles.{AreHands, IsStocked}
use Rattle.sink_files.proofs.Lists.{all_some}

abbrev IsOwn : PoolName → HandValue → Type 0
IsOwn pool hand = hand.pool ≡ pool

abbrev IsHand : PoolName → HandValue → Type 0
IsHand pool hand = (hand.pool ≡ pool) × HasTwoPermits hand

pub all_own : (pool : PoolName) (hs bs : List HandValue) → AreHands pool hs → AllZip Follows hs bs → All (λ (hand : HandValue). hand.pool ≡ pool) bs
all_own pool [] [] are later = All-nil (IsOwn pool)
all_own pool [] (b ∷ bs) are later = absurd later
all_own pool (a ∷ hs) [] are later = absurd later
all_own pool (a ∷ hs) (b ∷ bs) are later =
    All-cons (IsOwn pool) b bs (later.0.pool ∙ (All-head (IsHand pool) a hs are).0) (all_own pool hs bs (All-tail (IsHand pool) a hs are) later.1)

pub still_hands : (pool : PoolName) (hs bs : List HandValue) → AreHands pool hs → AllZip Follows hs bs → AllZip (λ (a b : HandValue). b.permits ≡ a.permits) hs bs → AreHands pool bs
still_hands pool [] [] are later same = All-nil (IsHand pool)
still_hands pool [] (b ∷ bs) are later same = absurd later
still_hands pool (a ∷ hs) [] are later same = absurd later
still_hands pool (a ∷ hs) (b ∷ bs) are later same =
    let is = All-head (IsHand pool) a hs are in
    All-cons (IsHand pool) b bs (later.0.pool ∙ is.0, subst (λ (n : ℕ). 2 ≤ n) (sym same.0) is.1) (still_hands pool hs bs (All-tail (IsHand pool) a hs are) later.1 same.1)

pub still_pools : (hs bs : List HandValue) → AllZip Follows hs bs → pools_of hs ≡ pools_of bs
still_pools [] [] later = refl
still_pools [] (b ∷ bs) later = absurd later
still_pools (a ∷ hs) [] later = absurd later
still_pools (a ∷ hs) (b ∷ bs) later = ap (λ (pool : PoolName). pool ∷ pools_of hs) (sym later.0.pool) ∙ ap (λ (pools : List PoolName). b.pool ∷ pools) (still_pools hs bs later.1)

-- no line is in any pools
pub none_in : (pools : List PoolName) (lines now : Lines) → ((n : ℕ) → lines n ≡ None) → ((m : ℕ) → now m ≡ lines m) → AreInPools pools now
none_in pools lines now none same = λ n line there. let gone : None ≡ Some line = sym (none n) ∙ sym (same n) ∙ there in absurd cc

first_is : (kinds : List Kind) (files : List FileValue) → length files ≡ 2 → All (HasKinds kinds) files → first_kinds files ≡ kinds
first_is kinds [] long are = absurd (omega (arith, long))
first_is kinds (f ∷ files) long are = All-head (HasKinds kinds) f files are

-- a line that was put is in stock
pub put_stocked : (hs bs : List HandValue) (n : ℕ) (kinds : List Kind) (files : List FileValue) (lines now : Lines) → AllZip Follows hs bs → kinds ≡ Int ∷ [] → length files ≡ 2 → All (HasKinds kinds) files
    → Sets lines n (Some (record { kinds = first_kinds files; parts = map (λ (f : FileValue). Some f) files })) now → AreInPools (pools_of hs) now → IsStocked (pools_of bs) n now
put_stocked hs bs n kinds files lines now later int long are sets own = record {
  root = record { line = record { kinds = first_kinds files; parts = map (λ (f : FileValue). Some f) files }; there = sets.here; whole = all_some files };
  kinds = ap kinds_of_line sets.here ∙ first_is kinds files long are ∙ int;
  own = subst (λ (pools : List PoolName). AreInPools pools now) (still_pools hs bs later) own;
}

-- a line that is used and not for the last time is in stock again
pub still_stocked : (hs bs : List HandValue) (n : ℕ) (root : roots.Root) (last : _) (lines now : Lines) → AllZip Follows hs bs → root ≡ Stored n → IsUsed lines (root_in root) last now → last ≡ false
    → IsStocked (pools_of hs) n lines → IsStocked (pools_of bs) n now
still_stocked hs bs n root last lines now later is used kept stocked =
    let stays : (m : ℕ) → now m ≡ lines m = subst (λ l. IsUsed lines (stored_root n) l now) kept (subst (λ (r : roots.Root). IsUsed lines (root_in r) last now) is used) in
    record {
      root = record { line = stocked.root.line; there = stays n ∙ stocked.root.there; whole = stocked.root.whole };
      kinds = ap kinds_of_line (stays n) ∙ stocked.kinds;
      own = λ m line there. subst (λ (pools : List PoolName). AllZip IsPartOf pools line.parts) (still_pools hs bs later) (stocked.own m line (sym (stays m) ∙ there));
    }

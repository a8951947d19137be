-- Hands, boxes and sinks of a phase, as tests have them.
use Rattle.std.proofs.Common.{◌≡◌, ◌<◌, ◌≤◌, false, List, [], ◌∷◌, length, subst, ◌∙◌, arith, Bool}
use Rattle.std.specs.Prelude.{All}
use Rattle.std.specs.List.{AllZip}
use Rattle.std.proofs.lemmas.List.Elements.{All-nil, All-cons, All-head, All-tail}
use Rattle.row_defs.specs.declared.kind.Kind.{Kind}
use Rattle.block_pool.specs.Handles.{PoolName, HandValue, Follows}
use Rattle.lop_chain.specs.declared.sink.RowSink.{Ghosts}
use Rattle.multiplexer.specs.declared.inbox.Inbox.{Inbox}
use Rattle.scatter.specs.Carrying.{AreForHand, AreBlocksOf}
use Rattle.scatter.specs.Phases.{CanTake}
use Rattle.exchange_tests.specs.Boxed.{AreHands, AreBoxes}
use Rattle.exchange_tests.specs.Linked as linked

abbrev IsOwn : PoolName → HandValue → Type 0
IsOwn pool hand = hand.pool ≡ pool

abbrev IsHand : PoolName → HandValue → Type 0
IsHand pool hand = (hand.pool ≡ pool) × (0 < hand.permits)

pub all_own : (pool : PoolName) (hs bs : List HandValue) → AreHands pool hs → AllZip Follows hs bs → All (λ (hand : HandValue). hand.pool ≡ pool) bs
all_own pool [] [] are later = All-nil (IsOwn pool)
all_own pool [] (b ∷ bs) are later = absurd later
all_own pool (a ∷ hs) [] are later = absurd later
all_own pool (a ∷ hs) (b ∷ bs) are later =
    All-cons (IsOwn pool) b bs (later.0.pool ∙ (All-head (IsHand pool) a hs are).0) (all_own pool hs bs (All-tail (IsHand pool) a hs are) later.1)

-- the boxes are for the hands
pub for_hands : (pool : PoolName) (hs : List HandValue) (xs : List Inbox) → AreHands pool hs → AreBoxes pool xs → length hs ≡ length xs → AllZip AreForHand hs xs
for_hands pool [] [] are own long = tt
for_hands pool [] (x ∷ xs) are own long = absurd (omega (arith, long))
for_hands pool (a ∷ hs) [] are own long = absurd (omega (arith, long))
for_hands pool (a ∷ hs) (x ∷ xs) are own long =
    let same = (All-head (IsHand pool) a hs are).0 in
    (rw same (All-head (AreBlocksOf pool) x xs own), for_hands pool hs xs (All-tail (IsHand pool) a hs are) (All-tail (AreBlocksOf pool) x xs own) (omega (arith, long)))

-- sinks that any hand serves
module _ {S R : Type 0} (g : Ghosts S HandValue R) (kinds : List Kind) (shut : S → Bool) (accepts : (s : S) → g.accepts s kinds) (opened : (s : S) → shut s ≡ false → g.is_shut s ≡ false) (serves : (s : S) (a : HandValue) → g.serves s a) where
  pub can_take : (pool : PoolName) (ss : List S) (hs : List HandValue) → All (λ s. shut s ≡ false) ss → AreHands pool hs → length ss ≡ length hs → AllZip (CanTake g kinds) ss hs
  can_take pool [] [] all are long = tt
  can_take pool [] (a ∷ hs) all are long = absurd (omega (arith, long))
  can_take pool (s ∷ ss) [] all are long = absurd (omega (arith, long))
  can_take pool (s ∷ ss) (a ∷ hs) all are long = (
    record {
      accepts = accepts s;
      is_open = opened s (All-head (λ s. shut s ≡ false) s ss all);
      serves = λ b same more. serves s b;
      permit = (All-head (IsHand pool) a hs are).1;
    },
    can_take pool ss hs (All-tail (λ s. shut s ≡ false) s ss all) (All-tail (IsHand pool) a hs are) (omega (arith, long)),
  )

-- hands with three permits each
three_one : (pool : PoolName) (hs : List HandValue) → linked.AreHands pool hs → AreHands pool hs
three_one pool hs are = λ k d below. let h = are k d below in let three = h.1 in (h.0, omega (arith, three))

pub still_three : (pool : PoolName) (hs bs : List HandValue) → linked.AreHands pool hs → AllZip Follows hs bs → AllZip (λ (a b : HandValue). b.permits ≡ a.permits) hs bs → AreHands pool bs
still_three pool [] [] are later same = All-nil (IsHand pool)
still_three pool [] (b ∷ bs) are later same = absurd later
still_three pool (a ∷ hs) [] are later same = absurd later
still_three pool (a ∷ hs) (b ∷ bs) are later same =
    let Is : HandValue → Type 0 = λ hand. (hand.pool ≡ pool) × (3 ≤ hand.permits) in
    let is = All-head Is a hs are in
    let three = is.1 in
    let permits = same.0 in
    All-cons (IsHand pool) b bs (later.0.pool ∙ is.0, omega (arith, three, permits)) (still_three pool hs bs (All-tail Is a hs are) later.1 same.1)

pub three_own : (pool : PoolName) (hs bs : List HandValue) → linked.AreHands pool hs → AllZip Follows hs bs → All (λ (hand : HandValue). hand.pool ≡ pool) bs
three_own pool hs bs are later = all_own pool hs bs (three_one pool hs are) later

-- boxes that are for hands of one pool
pub of_hands : (pool : PoolName) (hs : List HandValue) (xs : List Inbox) → All (λ (hand : HandValue). hand.pool ≡ pool) hs → AllZip AreForHand hs xs → AreBoxes pool xs
of_hands pool [] [] own fit = All-nil (AreBlocksOf pool)
of_hands pool [] (x ∷ xs) own fit = absurd fit
of_hands pool (a ∷ hs) [] own fit = absurd fit
of_hands pool (a ∷ hs) (x ∷ xs) own fit =
    All-cons (AreBlocksOf pool) x xs (subst (λ (q : PoolName). AreBlocksOf q x) (All-head (IsOwn pool) a hs own) fit.0) (of_hands pool hs xs (All-tail (IsOwn pool) a hs own) fit.1)

-- Calls of a shelf one after another.
use Rattle.std.proofs.Common.{◌≡◌, ℕ, ◌≤◌, Bool, List, [], ◌++◌, Option, Some, None, Result, Ok, Err, IfOk, OnErr, refl, sym, ap, subst, ◌∙◌, arith, append_assoc, append-nil}
use Rattle.dia_edge.specs.Counts.{HasRisen}
use Rattle.dia_edge.specs.Shelves.{Holdings, GivesPrefix, DropsPrefix, and_asked, KeepsHoldings, ShelfStays, Reads}
use Rattle.dia_edge.proofs.CountLemmas.{rose_since}

pub gives_none : (left : Option (List ℕ)) → GivesPrefix left [] left
gives_none None = tt
gives_none (Some bytes) = (bytes, refl, refl)

pub gives_then : (a b c : Option (List ℕ)) (x y : List ℕ) → GivesPrefix a x b → GivesPrefix b y c → GivesPrefix a (x ++ y) c
gives_then None b c x y p q = tt
gives_then (Some bytes) b c x y p q =
    let Gives : Option (List ℕ) → Type 0 = λ o. GivesPrefix o y c in
    let n = subst Gives p.2 q in
    (n.0, p.1 ∙ ap (λ (xs : List ℕ). x ++ xs) n.1 ∙ sym (append_assoc x y n.0), n.2)

pub drops_given : (before after : Option (List ℕ)) (x : List ℕ) → GivesPrefix before x after → DropsPrefix before after
drops_given None after x p = tt
drops_given (Some bytes) after x p = (x, p.0, p.1, p.2)

pub drops_none : (before after : Option (List ℕ)) → after ≡ before → DropsPrefix before after
drops_none None after same = tt
drops_none (Some bytes) after same = ([], bytes, refl, same)

pub drops_then : (a b c : Option (List ℕ)) (x : List ℕ) → GivesPrefix a x b → DropsPrefix b c → DropsPrefix a c
drops_then None b c x p q = tt
drops_then (Some bytes) b c x p q =
    let Drops : Option (List ℕ) → Type 0 = λ o. DropsPrefix o c in
    let n = subst Drops p.2 q in
    (x ++ n.0, n.1, p.1 ∙ ap (λ (xs : List ℕ). x ++ xs) n.2 ∙ sym (append_assoc x n.0 n.1), n.3)

-- the names that were asked for, one call after another
pub asked_none : (told : Option (List (List ℕ))) → told ≡ and_asked told []
asked_none None = refl
asked_none (Some names) = ap Some (sym (append-nil names))

pub asked_then : (a b c : Option (List (List ℕ))) (x y : List (List ℕ)) → b ≡ and_asked a x → c ≡ and_asked b y → c ≡ and_asked a (x ++ y)
asked_then None b c x y p q = q ∙ ap (λ (o : Option (List (List ℕ))). and_asked o y) p
asked_then (Some names) b c x y p q =
    q ∙ ap (λ (o : Option (List (List ℕ))). and_asked o y) p ∙ ap Some (append_assoc names x y)

pub keeps_none : {N : Type 0} (is_fixed : N → Bool) (holds : N → Option Holdings) (shelf : N) → KeepsHoldings is_fixed holds shelf shelf
keeps_none is_fixed holds shelf = λ fixed. (fixed, refl)

pub keeps_then : {N : Type 0} (is_fixed : N → Bool) (holds : N → Option Holdings) (a b c : N) → KeepsHoldings is_fixed holds a b → KeepsHoldings is_fixed holds b c → KeepsHoldings is_fixed holds a c
keeps_then is_fixed holds a b c p q = λ fixed. let first = p fixed in let next = q first.0 in (next.0, next.1 ∙ first.1)

pub stays_none : {N : Type 0} (holds : N → Option Holdings) (left : N → Option (List ℕ)) (asked : N → Option (List (List ℕ))) (is_fixed : N → Bool) (faults : N → ℕ) (shelf : N)
    → ShelfStays holds left asked is_fixed faults shelf shelf
stays_none holds left asked is_fixed faults shelf =
    record { counts = omega arith; holds_told = refl; left_told = refl; asked_told = refl; fixed = keeps_none is_fixed holds shelf }

pub stays_then : {N : Type 0} (holds : N → Option Holdings) (left : N → Option (List ℕ)) (asked : N → Option (List (List ℕ))) (is_fixed : N → Bool) (faults : N → ℕ) (a b c : N)
    → ShelfStays holds left asked is_fixed faults a b → ShelfStays holds left asked is_fixed faults b c → ShelfStays holds left asked is_fixed faults a c
stays_then holds left asked is_fixed faults a b c p q =
    record {
      counts = (let low = p.counts in let high = q.counts in omega arith);
      holds_told = q.holds_told ∙ p.holds_told;
      left_told = q.left_told ∙ p.left_told;
      asked_told = q.asked_told ∙ p.asked_told;
      fixed = keeps_then is_fixed holds a b c p.fixed q.fixed;
    }

-- one read, from its parts
pub reads_once : {N T E : Type 0} (left : N → Option (List ℕ)) (asked : N → Option (List (List ℕ))) (faults : N → ℕ) (old new : N) (given : T → List ℕ) (result : Result T E)
    → IfOk result (λ answer. GivesPrefix (left old) (given answer) (left new)) → OnErr result (left new ≡ left old)
    → OnErr result (HasRisen (faults old) (faults new)) → asked new ≡ asked old → Reads left asked faults old new given result
reads_once left asked faults old new given (Ok answer) gives same rose names = record { ok = gives; failed = tt; rose = tt; names = names }
reads_once left asked faults old new given (Err e) gives same rose names =
    record { ok = tt; failed = drops_none (left old) (left new) same; rose = rose; names = names }

-- nothing was read
pub reads_none : {N T E : Type 0} (left : N → Option (List ℕ)) (asked : N → Option (List (List ℕ))) (faults : N → ℕ) (shelf : N) (given : T → List ℕ) (answer : T) → given answer ≡ []
    → Reads {E = E} left asked faults shelf shelf given (Ok answer)
reads_none left asked faults shelf given answer none =
    let Gives : List ℕ → Type 0 = λ xs. GivesPrefix (left shelf) xs (left shelf) in
    record { ok = subst Gives (sym none) (gives_none (left shelf)); failed = tt; rose = tt; names = refl }

-- behind a piece that was read, more was read
pub reads_then : {N T U D E : Type 0} (left : N → Option (List ℕ)) (asked : N → Option (List (List ℕ))) (faults : N → ℕ) (a b c : N) (piece : T → List ℕ) (given : U → List ℕ) (answer : T) (result : Result U E)
    → faults a ≤ faults b → Reads {E = D} left asked faults a b piece (Ok answer) → Reads left asked faults b c given result
    → Reads left asked faults a c (λ more. piece answer ++ given more) result
reads_then left asked faults a b c piece given answer (Ok more) counts p q =
    record { ok = gives_then (left a) (left b) (left c) (piece answer) (given more) p.ok q.ok; failed = tt; rose = tt; names = q.names ∙ p.names }
reads_then left asked faults a b c piece given answer (Err e) counts p q =
    record {
      ok = tt;
      failed = drops_then (left a) (left b) (left c) (piece answer) p.ok q.failed;
      rose = rose_since (faults a) (faults b) (faults c) counts q.rose;
      names = q.names ∙ p.names;
    }

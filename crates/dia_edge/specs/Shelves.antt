-- What a shelf that tells holds, what is left of its opened input, and which names it was asked for. A shelf that
-- doesn't tell has None.
use Rattle.std.specs.Prelude.{◌≡◌, ℕ, ◌≤◌, Bool, true, List, [], ◌++◌, Option, Some, None, IsSome, IfSome, is_some, Result, IfOk, OnErr}
use Rattle.std.specs.Option.{option_map}
use Rattle.dia_edge.specs.Counts.{HasRisen}

-- the bytes under each name, or none where there is no such input
abbrev pub Holdings : Type 0
Holdings = List ℕ → Option (List ℕ)

-- the name is there, and all that it holds is left
abbrev pub IsOpened : Option Holdings → List ℕ → Option (List ℕ) → Type 0
IsOpened holds name left = IfSome holds (λ held. IsSome (held name) × (left ≡ held name))

-- the name is not there, and nothing is left
abbrev pub IsAbsent : Option Holdings → List ℕ → Option (List ℕ) → Type 0
IsAbsent holds name left = IfSome holds (λ held. (held name ≡ None) × (left ≡ Some []))

-- nothing is left
abbrev pub IsShut : Option (List ℕ) → Type 0
IsShut left = IfSome left (λ bytes. bytes ≡ [])

-- these bytes were the next ones, and the others are left
abbrev pub GivesPrefix : Option (List ℕ) → List ℕ → Option (List ℕ) → Type 0
GivesPrefix before prefix after = IfSome before (λ all. (rest : List ℕ) × (all ≡ prefix ++ rest) × (after ≡ Some rest))

-- some next bytes are gone, and the others are left
abbrev pub DropsPrefix : Option (List ℕ) → Option (List ℕ) → Type 0
DropsPrefix before after =
    IfSome before (λ all. (prefix : List ℕ) × (rest : List ℕ) × (all ≡ prefix ++ rest) × (after ≡ Some rest))

-- nothing was left
abbrev pub IsAtEnd : Option (List ℕ) → Type 0
IsAtEnd = IsShut

-- the names that were asked for, and then these
abbrev pub and_asked : Option (List (List ℕ)) → List (List ℕ) → Option (List (List ℕ))
and_asked told names = option_map (λ all. all ++ names) told

-- what a fixed shelf keeps: it stays fixed, and each of its names holds what it held
abbrev pub KeepsHoldings : {N : Type 0} → (N → Bool) → (N → Option Holdings) → N → N → Type 0
KeepsHoldings is_fixed holds old new = is_fixed old ≡ true → (is_fixed new ≡ true) × (holds new ≡ holds old)

-- what each call keeps of a shelf: its count of faults never falls, it tells what it told, and what a fixed shelf keeps
pub record ShelfStays {N : Type 0} (holds : N → Option Holdings) (left : N → Option (List ℕ)) (asked : N → Option (List (List ℕ))) (is_fixed : N → Bool) (faults : N → ℕ) (old new : N) : Type 0 where
  pub counts : faults old ≤ faults new
  pub holds_told : is_some (holds new) ≡ is_some (holds old)
  pub left_told : is_some (left new) ≡ is_some (left old)
  pub asked_told : is_some (asked new) ≡ is_some (asked old)
  pub fixed : KeepsHoldings is_fixed holds old new

-- what a call says that reads the opened input: what it gave were the next bytes, on a failure some next bytes may be
-- gone and the count of faults rose, and no name was asked for
pub record Reads {N T E : Type 0} (left : N → Option (List ℕ)) (asked : N → Option (List (List ℕ))) (faults : N → ℕ) (old new : N) (given : T → List ℕ) (result : Result T E) : Type 0 where
  pub ok : IfOk result (λ answer. GivesPrefix (left old) (given answer) (left new))
  pub failed : OnErr result (DropsPrefix (left old) (left new))
  pub rose : OnErr result (HasRisen (faults old) (faults new))
  pub names : asked new ≡ asked old

-- What the slots of a disk that tells hold. A disk that doesn't tell has None.
use Rattle.std.specs.Prelude.{◌≡◌, ◌≢◌, ℕ, ◌≤◌, List, Option, length, take, IfSome}

-- the bytes of each slot
abbrev pub Slots : Type 0
Slots = ℕ → List ℕ

-- the slot has at least so many bytes
abbrev pub CanFill : Option Slots → ℕ → ℕ → Type 0
CanFill slots slot n = IfSome slots (λ held. n ≤ length (held slot))

-- these are the slot's bytes, as far as they go
abbrev pub IsFilled : Option Slots → ℕ → List ℕ → Type 0
IsFilled slots slot bytes = IfSome slots (λ held. bytes ≡ take (length bytes) (held slot))

-- the slot has just these bytes
abbrev pub IsWritten : Option Slots → ℕ → List ℕ → Type 0
IsWritten slots slot bytes = IfSome slots (λ held. held slot ≡ bytes)

-- every other slot has the bytes that it had
abbrev pub OthersStay : Option Slots → ℕ → Option Slots → Type 0
OthersStay before slot after =
    IfSome before (λ old. IfSome after (λ new. (other : ℕ) → other ≢ slot → new other ≡ old other))

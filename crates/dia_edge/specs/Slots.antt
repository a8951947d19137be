-- Slots: those that a file has room for, and those that a disk in memory keeps, in order of their numbers.
use Rattle.std.specs.Prelude.{◌≡◌, ◌≢◌, ◌⊎◌, ℕ, ◌^◌, ◌<◌, ◌≤◌, ◌==◌, List, [], ◌∷◌, map, length, slice_index, if◌then◌else◌, Result, MatchResult}
use Rattle.std.specs.List.Sorted.{IsStrictlyIncreasing}
use Rattle.dia_edge.specs.Disks.{Slots}
use Rattle.dia_edge.specs.declared.mem_disk.Held.{Held}

-- in a file a slot has room for 2^20 bytes, and no byte stands at 2^63 or later
abbrev pub IsBeyond : ℕ → ℕ → Type 0
IsBeyond slot count = (2 ^ 43 ≤ slot) ⊎ (2 ^ 20 < count)

-- a slot's number and its bytes
abbrev pub pair_of : Held → ℕ × List ℕ
pair_of held = (held.slot, held.bytes.items)

abbrev pub pairs_of : List Held → List (ℕ × List ℕ)
pairs_of = map pair_of

-- a slot that isn't kept has no bytes
abbrev pub slots_of : List (ℕ × List ℕ) → Slots
slots_of [] slot = []
slots_of (pair ∷ pairs) slot = if pair.0 == slot then pair.1 else slots_of pairs slot

abbrev pub numbers : List (ℕ × List ℕ) → List ℕ
numbers = map (λ pair. pair.0)

-- no number comes twice, and they rise
abbrev pub IsAscending : List (ℕ × List ℕ) → Type 0
IsAscending pairs = IsStrictlyIncreasing (numbers pairs)

-- where a number stands, or where it would have to be put
abbrev pub IsPlace : List ℕ → ℕ → Result ℕ ℕ → Type 0
IsPlace numbers number place =
    MatchResult place
    (λ i. (i < length numbers) × (slice_index numbers i ≡ number))
    (λ i. (i ≤ length numbers)
    × ((k : ℕ) → k < i → slice_index numbers k < number)
    × ((k : ℕ) → i ≤ k → k < length numbers → number < slice_index numbers k))

-- one slot was set, and the numbers rise
pub record IsPut (before after : List (ℕ × List ℕ)) (slot : ℕ) (bytes : List ℕ) : Type 0 where
  pub ascending : IsAscending after
  pub set : slots_of after slot ≡ bytes
  pub others : (other : ℕ) → other ≢ slot → slots_of after other ≡ slots_of before other

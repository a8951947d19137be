-- Which block has which slot.
use Rattle.std.specs.Prelude.{◌≡◌, ◌≢◌, ℕ, ◌+◌, true, List, length, slice_index_or, Option, Some, None, is_some, count_by}
use Rattle.pool_core.specs.Numbers.{Given, is_given}

-- of each id the slot that its block has, how many ids there is room for, and the slots that were given out
pub record Assigned : Type 0 where
  pub by_id : List (Option ℕ)
  pub room : ℕ
  pub numbers : Given

-- the slot of the block with this id, if it has one
abbrev pub slot_of : List (Option ℕ) → ℕ → Option ℕ
slot_of by_id id = slice_index_or by_id id None

-- no block has this slot
abbrev pub IsNobodys : List (Option ℕ) → ℕ → Type 0
IsNobodys by_id slot = (id : ℕ) → slot_of by_id id ≢ Some slot

-- a slot that a block has was given out and is no other block's, and those that nobody has have come back
pub record IsAssigned (by_id : List (Option ℕ)) (numbers : Given) : Type 0 where
  pub given : (id slot : ℕ) → slot_of by_id id ≡ Some slot → is_given numbers slot ≡ true
  pub apart : (id other slot : ℕ) → slot_of by_id id ≡ Some slot → slot_of by_id other ≡ Some slot → id ≡ other
  pub counted : length numbers.returned + count_by is_some by_id ≡ numbers.next

-- The rule that the turn keeps on its table, and what each of its steps tells.
-- The one word is 0 while the turn is in; it is 1 or more while a seat has it, and 2 where a thread may sleep for it.
use Rattle.std.specs.Prelude.{◌≡◌, ◌≢◌, ℕ, ◌<◌, List, [], ◌∷◌, map, length, slice_index, Some}
use mathlib.Core.Option.{Option, some}
use lib.ListN.{get_elem?}
use Rattle.atomic_table.specs.Table.{State, Allows}
use Rattle.turn_table.specs.declared.seat.Doing.{Doing}
use Rattle.turn_table.specs.declared.seat.Stage.{Stage}
use Rattle.turn_table.specs.declared.seat.Stage.TheVariants.{Idle, Holding, Closing}
use Rattle.turn_table.specs.Seats.{Slot, SeatState, doing, idle, Meets}

-- a state of which the rule sees this is at home
abbrev pub HasPlain : {S X : Type 0} → (S → X) → Option (Option (Slot S)) → X → Type 0
HasPlain {S} plain home value = (state : S) × (home ≡ some (some (Some state))) × (plain state ≡ value)

module _ {S X : Type 0} (plain : S → X) (word : ℕ) (home : Option (Option (Slot S))) (value : X) (holder seat : ℕ) where
  -- what a seat at this stage knows: that the turn is out, with it, and the state that it found
  abbrev pub Knows : Stage X → Type 0
  Knows Idle = Unit {0}
  Knows (Holding found) = (0 < word) × (seat ≡ holder) × (found ≡ value)
  Knows (Closing found) = (0 < word) × (seat ≡ holder) × (found ≡ value) × HasPlain plain home found

abbrev pub view_of : {X V : Type 0} → Doing X V → V
view_of known = known.view

-- the state's own rule holds of all views and of the value that is at home, or that the holder found
pub record KeepsRule {S X V : Type 0} (plain : S → X) (holds : X → List V → Type 0) (table : State (Slot S) (Doing X V)) : Type 0 where
  pub value : X
  pub holder : ℕ
  pub has_word : 0 < length table.words
  pub at_home : slice_index table.words 0 ≡ 0 → HasPlain plain (get_elem? table.homes 0) value
  pub each_seat : (seat : ℕ) (known : Doing X V) → get_elem? table.views seat ≡ some known
      → Knows plain (slice_index table.words 0) (get_elem? table.homes 0) value holder seat known.stage
  pub kept : holds value (map view_of table.views)

module _ {S X V : Type 0} where
  -- the seat has the turn now, and in the slot a state that meets the rule
  abbrev pub Took : (S → X) → (X → List V → Type 0) → SeatState S X V → SeatState S X V → Type 0
  Took plain holds before after =
      (state : S) × (after ≡ (doing (Holding (plain state)) before.0.view, (0, Some state) ∷ before.1))
      × Meets holds (plain state) before.0.view

  -- the seat has the last turn, and a state that meets the rule is at home
  abbrev pub Closed : (X → List V → Type 0) → SeatState S X V → SeatState S X V → Type 0
  Closed holds before after =
      (value : X) × (after ≡ (doing (Closing value) before.0.view, before.1)) × Meets holds value before.0.view

  -- the turn was found in where the number found is 0, and else nothing changed
  abbrev pub reached : (SeatState S X V → SeatState S X V → Type 0) → SeatState S X V → ℕ → SeatState S X V → Type 0
  reached told before found after = (found ≡ 0 → told before after) × (found ≢ 0 → after ≡ before)

  -- whichever seat marks the turn as out, by a change after which the word is never 0, the rule is kept and the seat is told this
  abbrev pub MayReach : (S → X) → (X → List V → Type 0) → (SeatState S X V → SeatState S X V → Type 0) → Type 0
  MayReach plain holds told =
      (slots seat : ℕ) (before : SeatState S X V) (change : ℕ → ℕ) → ((word : ℕ) → 0 < change word)
      → Allows (KeepsRule plain holds) slots seat before 0 change (reached told before)

  -- the seat gave this state, and has the view after the event
  abbrev pub gave : (S → X) → (X → X → V → V) → SeatState S X V → ℕ → SeatState S X V → Type 0
  gave plain event before _ after =
      (found : X) (state : S) → before.0.stage ≡ Holding found → before.1 ≡ (0, Some state) ∷ []
      → after ≡ (idle (event found (plain state) before.0.view), [])

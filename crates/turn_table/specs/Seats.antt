-- What a seat has and knows: the words of the turn's contracts.
use Rattle.std.specs.Prelude.{◌≡◌, ℕ, List, [], ◌∷◌, slice_set}
use Rattle.std.specs.Prelude as std
use mathlib.Core.Option.{some}
use lib.ListN.{get_elem?}
use Rattle.atomic_table.specs.Table.{Me}
use Rattle.atomic_table.specs.declared.shared.Seat.{Seat}
use Rattle.atomic_table.specs.declared.badge.Badge.{Badge}
use Rattle.turn_table.specs.declared.seat.Doing.{Doing}
use Rattle.turn_table.specs.declared.seat.Stage.{Stage}
use Rattle.turn_table.specs.declared.seat.Stage.TheVariants.{Idle, Holding}

-- what lies in the one slot: the state, while no seat has taken it
abbrev pub Slot : Type 0 → Type 0
Slot S = std.Option S

-- a seat's knowledge, and the slot where it has it
abbrev pub SeatState : Type 0 → Type 0 → Type 0 → Type 0
SeatState S X V = Me (Slot S) (Doing X V)

module _ {X V : Type 0} where
  abbrev pub doing : Stage X → V → Doing X V
  doing stage view = record { stage = stage; view = view }

  abbrev pub idle : V → Doing X V
  idle view = doing Idle view

  -- the rule holds of this state and of the views of all seats, this view among them
  abbrev pub Meets : (X → List V → Type 0) → X → V → Type 0
  Meets holds state view =
      (views : List V) × (seat : ℕ) × (get_elem? views seat ≡ some view) × holds state views

  -- whatever the others have, the rule is kept where the state goes from found to given
  -- and one seat's view from before to after
  abbrev pub Steps : (X → List V → Type 0) → X → X → V → V → Type 0
  Steps holds found given before after =
      (views : List V) (seat : ℕ) → holds found views → get_elem? views seat ≡ some before
      → holds given (slice_set views seat after)

  -- the token of a seat with this view
  abbrev pub IsToken : Badge (Doing X V) → V → Type 0
  IsToken token view = token.views ≡ idle view ∷ []

module _ {S X V : Type 0} where
  -- what the state's rule sees of a seat
  abbrev pub seat_view : Seat (Slot S) (Doing X V) → V
  seat_view seat = seat.me.0.view

  -- after is the seat that before was, of the same turn
  abbrev pub IsSameSeat : Seat (Slot S) (Doing X V) → Seat (Slot S) (Doing X V) → Type 0
  IsSameSeat before after = (after.table_id ≡ before.table_id) × (after.id ≡ before.id)

  -- the seat doesn't have the turn
  abbrev pub IsIdle : Seat (Slot S) (Doing X V) → Type 0
  IsIdle seat = seat.me ≡ (idle seat.me.0.view, [])

  -- the seat has the turn, and took this state
  abbrev pub Holds : Seat (Slot S) (Doing X V) → X → Type 0
  Holds seat found = seat.me ≡ (doing (Holding found) seat.me.0.view, (0, std.None) ∷ [])

  -- the seat has the turn, and the rule is kept where it gives this state and its view changes as the event says
  abbrev pub MayGive : (X → List V → Type 0) → Seat (Slot S) (Doing X V) → X → (X → X → V → V) → Type 0
  MayGive holds seat given event =
      (found : X) × Holds seat found
      × Steps holds found given (seat_view seat) (event found given (seat_view seat))

  -- the view of the seat that gave this state has changed as the event says
  abbrev pub HasGiven : Seat (Slot S) (Doing X V) → X → (X → X → V → V) → Seat (Slot S) (Doing X V) → Type 0
  HasGiven before given event after =
      (found : X) → Holds before found → seat_view after ≡ event found given (seat_view before)

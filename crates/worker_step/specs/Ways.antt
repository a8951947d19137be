-- What a phase leaves of a way.
use Rattle.std.specs.Prelude.{◌≡◌, ℕ, ◌+◌, ◌-◌, ◌^◌, min}
use Rattle.worker_step.specs.declared.way.Way.{Way}
use Rattle.worker_step.specs.declared.way.Way.TheVariants.{Threads, Order}
use Rattle.worker_step.specs.Order.{IsDrawn}

-- The way after a phase of so many tasks: the next phase under the same gate, or a number of the generator that came
-- at least one draw a task later.
abbrev pub IsNextPhase : {G : Type 0} → ℕ → Way G → Way G → Type 0
IsNextPhase count (Threads gate phase) (Threads other next) = (other.now ≡ gate.now) × (next ≡ min (phase + 1) (2 ^ 32 - 1))
IsNextPhase count (Threads gate phase) (Order seed) = ⊥
IsNextPhase count (Order seed) (Threads gate phase) = ⊥
IsNextPhase count (Order seed) (Order next) = IsDrawn count seed next

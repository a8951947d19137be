use Rattle.std.proofs.Common.{◌≡◌}
use Rattle.turn_table.specs.Seats.{IsSameSeat}
use Rattle.turn_table.proofs.turn.Turn.reach.Given as goal

abbrev pub invariant-loop : goal.invariant-loop
invariant-loop g l = IsSameSeat l.fn.seat l.seat × (l.seat.me ≡ l.fn.seat.me)

use Rattle.std.proofs.Common.{◌≡◌, ◌+◌, ◌≤◌}
use Rattle.pool_tests.proofs.turn.count.Given as goal

abbrev pub invariant-loop-round : goal.invariant-loop-round
invariant-loop-round g l = (l.part.counter ≡ l.fn.part.counter) × (l.part.amount ≡ l.fn.part.amount + l.counted) × (l.counted ≤ l._round)

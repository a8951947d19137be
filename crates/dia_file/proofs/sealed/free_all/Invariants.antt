use Rattle.std.specs.VecDeque.{deque_len}
use Rattle.dia_file.proofs.Spreading.{FreedSoFar}
use Rattle.dia_file.proofs.sealed.free_all.Given as goal

abbrev pub invariant-loop-front : goal.invariant-loop-front
invariant-loop-front g l = FreedSoFar l.fn.hand l.hand l.sealed.items (deque_len l.fn.sealed) (deque_len l.sealed)

abbrev pub decreases-loop-front : goal.decreases-loop-front
decreases-loop-front g l = deque_len l.sealed

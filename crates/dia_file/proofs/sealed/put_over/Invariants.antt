use Rattle.std.proofs.Common.{length}
use Rattle.std.specs.VecDeque.{deque_len}
use Rattle.dia_file.proofs.Spreading.{PutSoFar}
use Rattle.dia_file.proofs.sealed.put_over.Given as goal

abbrev pub invariant-loop-rest : goal.invariant-loop-rest
invariant-loop-rest g l = PutSoFar l.fn.hand l.fn.sealed.items l.fn.frame l.fn.bytes l.hand l.sealed.items l.frame l.rest (deque_len l.fn.sealed) (deque_len l.sealed)

abbrev pub decreases-loop-rest : goal.decreases-loop-rest
decreases-loop-rest g l = length l.rest

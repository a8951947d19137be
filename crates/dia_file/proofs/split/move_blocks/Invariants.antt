use Rattle.std.specs.VecDeque.{deque_len}
use Rattle.dia_file.proofs.Splitting.{MovedSoFar}
use Rattle.dia_file.proofs.split.move_blocks.Given as goal

abbrev pub invariant-loop-bytes : goal.invariant-loop-bytes
invariant-loop-bytes l = MovedSoFar l.want l.fn.from.items l.from l.into l.rows l.bytes l.whole

abbrev pub decreases-loop-bytes : goal.decreases-loop-bytes
decreases-loop-bytes l = deque_len l.from

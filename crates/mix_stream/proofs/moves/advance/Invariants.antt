use Rattle.std.proofs.Common.{length}
use Rattle.mix_stream.proofs.Drained.{Going}
use Rattle.mix_stream.proofs.moves.advance.Given as goal

abbrev pub invariant-loop-place : goal.invariant-loop-place
invariant-loop-place g l = Going l.fn.hand l.hand l.fn.stream l.stream

abbrev pub decreases-loop-place : goal.decreases-loop-place
decreases-loop-place g l = length l.stream.packets.items

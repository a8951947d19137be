use Rattle.std.proofs.Common.{length}
use Rattle.text_out.proofs.pieces.+gather.Given as goal

abbrev pub decreases-gather : goal.decreases-gather
decreases-gather l = length l.pieces.now

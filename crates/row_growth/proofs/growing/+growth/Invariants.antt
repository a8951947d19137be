use Rattle.std.proofs.Common.{length}
use Rattle.row_growth.proofs.growing.+growth.Given as goal

abbrev pub decreases-growth : goal.decreases-growth
decreases-growth l = length l.ops.now

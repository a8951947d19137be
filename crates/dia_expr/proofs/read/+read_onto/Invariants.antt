use Rattle.std.proofs.Common.{length}
use Rattle.dia_expr.proofs.read.+read_onto.Given as goal

abbrev pub decreases-read_onto : goal.decreases-read_onto
decreases-read_onto l = length l.words.now

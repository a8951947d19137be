use Rattle.std.proofs.Common.{length, ◌+◌, ◌*◌}
use Rattle.dia_expr.proofs.read.+reading.Given as goal

abbrev pub decreases-read_first : goal.decreases-read_first
decreases-read_first l = 3 * length l.words.now

abbrev pub decreases-read_pair : goal.decreases-read_pair
decreases-read_pair l = 3 * length l.words.now + 1

abbrev pub decreases-read_form : goal.decreases-read_form
decreases-read_form l = 3 * length l.words.now + 2

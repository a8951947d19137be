use Rattle.std.proofs.Common.{length}
use Rattle.dealt_files.proofs.counting.+count_rows.Given as goal

abbrev pub decreases-count_rows : goal.decreases-count_rows
decreases-count_rows g l = length l.operands.now

use Rattle.std.proofs.Common.{length}
use Rattle.lop_chain.proofs.columns.+append_numbers.Given as goal

abbrev pub decreases-append_numbers : goal.decreases-append_numbers
decreases-append_numbers l = length l.columns.now

use Rattle.std.proofs.Common.{length}
use Rattle.lop_chain.proofs.columns.+append_values.Given as goal

abbrev pub decreases-append_values : goal.decreases-append_values
decreases-append_values l = length l.exprs.now

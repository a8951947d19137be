use Rattle.std.proofs.Common.{length}
use Rattle.scatter.proofs.line.+rows_in_parts.Given as goal

abbrev pub decreases-rows_in_parts : goal.decreases-rows_in_parts
decreases-rows_in_parts l = length l.parts.now

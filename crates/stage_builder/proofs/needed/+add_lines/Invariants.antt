use Rattle.std.proofs.Common.{length}
use Rattle.stage_builder.proofs.needed.+add_lines.Given as goal

abbrev pub decreases-add_lines : goal.decreases-add_lines
decreases-add_lines l = length l.statements.now

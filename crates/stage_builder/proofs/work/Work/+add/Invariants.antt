use Rattle.std.proofs.Common.{length}
use Rattle.stage_builder.proofs.work.Work.+add.Given as goal

abbrev pub decreases-add : goal.decreases-add
decreases-add l = length l.statements.now

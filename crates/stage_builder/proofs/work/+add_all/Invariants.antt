use Rattle.std.proofs.Common.{length}
use Rattle.stage_builder.proofs.work.+add_all.Given as goal

abbrev pub decreases-add_all : goal.decreases-add_all
decreases-add_all l = length l.items.now

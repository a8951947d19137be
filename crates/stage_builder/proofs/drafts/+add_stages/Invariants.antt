use Rattle.std.proofs.Common.{length}
use Rattle.stage_builder.proofs.drafts.+add_stages.Given as goal

abbrev pub decreases-add_stages : goal.decreases-add_stages
decreases-add_stages l = length l.items.now

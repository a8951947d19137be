use Rattle.std.proofs.Common.{length}
use Rattle.job_words.proofs.words.+values_among.Given as goal

abbrev pub decreases-values_among : goal.decreases-values_among
decreases-values_among l = length l.words.now

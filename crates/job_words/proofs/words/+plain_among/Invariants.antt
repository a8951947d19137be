use Rattle.std.proofs.Common.{length}
use Rattle.job_words.proofs.words.+plain_among.Given as goal

abbrev pub decreases-plain_among : goal.decreases-plain_among
decreases-plain_among l = length l.words.now

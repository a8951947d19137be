-- The ranges of a command's numbers.
use Rattle.std.specs.Prelude.{◌≤◌}
use Rattle.job_words.specs.declared.command.Command.{Command}
use Rattle.job_words.specs.declared.command.Command.TheVariants.{Run}
use Rattle.job_words.specs.declared.command.Job.{Job}
use Rattle.job_words.specs.declared.limits.TheConstants.{LEAST_WORKERS, MOST_WORKERS, MOST_POOL, LEAST_BLOCK, MOST_BLOCK}

pub record IsJobWithin (job : Job) : Type 0 where
  pub least_workers : LEAST_WORKERS ≤ job.workers
  pub most_workers : job.workers ≤ MOST_WORKERS
  pub most_pool : job.limit ≤ MOST_POOL
  pub least_block : LEAST_BLOCK ≤ job.block
  pub most_block : job.block ≤ MOST_BLOCK

-- the numbers of a command are within their ranges
abbrev pub IsWithin : Command → Type 0
IsWithin (Run job) = IsJobWithin job

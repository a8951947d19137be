use Rattle.std.proofs.Common.{length, ◌+◌, ◌*◌}
use Rattle.worker_step.proofs.threads.+threads.Given as goal

abbrev pub decreases-run_both-beside : goal.decreases-run_both-beside
decreases-run_both-beside g l = 4 * length l.rest.now + 1

abbrev pub decreases-run_both : goal.decreases-run_both
decreases-run_both g l = 4 * length l.rest.now + 2

abbrev pub decreases-run_some : goal.decreases-run_some
decreases-run_some g l = 4 * length l.rest.now + 3

abbrev pub decreases-run_by_threads : goal.decreases-run_by_threads
decreases-run_by_threads g l = 4 * length l.tasks.now

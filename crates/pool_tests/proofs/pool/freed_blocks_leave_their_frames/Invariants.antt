use Rattle.std.proofs.Common.{◌≡◌}
use Rattle.pool_tests.proofs.pool.freed_blocks_leave_their_frames.Given as goal

abbrev pub invariant-loop-n : goal.invariant-loop-n
invariant-loop-n g l = record {
  pool : l.hand.pool ≡ l.initial.hand.pool;
  permits : l.hand.permits ≡ l.initial.hand.permits;
}

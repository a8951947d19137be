use Rattle.std.proofs.Common.{◌≡◌}
use Rattle.pool_tests.proofs.pool.drain.Given as goal

abbrev pub invariant-loop-block : goal.invariant-loop-block
invariant-loop-block g l = record {
  pool : l.hand.pool ≡ l.initial.hand.pool;
  permits : l.hand.permits ≡ l.initial.hand.permits;
}

use Rattle.std.proofs.Common.{◌≡◌}
use Rattle.block_pool.specs.Handles.{AreOfPool}
use Rattle.pool_tests.proofs.pool.fill.Given as goal

abbrev pub invariant-loop-n : goal.invariant-loop-n
invariant-loop-n g l = record {
  pool : l.hand.pool ≡ l.initial.hand.pool;
  permits : l.hand.permits ≡ l.initial.hand.permits;
  own : AreOfPool l.initial.hand.pool l.blocks.items;
}

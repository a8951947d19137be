use Rattle.std.proofs.Common.{◌≡◌}
use Rattle.block_pool.specs.Handles.{AreOfPool}
use Rattle.mix_stream.specs.Packets.{blocks_in}
use Rattle.exchange_tests.proofs.receiving.seal_all.Given as goal

abbrev pub invariant-loop-piece : goal.invariant-loop-piece
invariant-loop-piece g l = record {
  pool : l.hand.pool ≡ l.fn.hand.pool;
  permits : l.hand.permits ≡ l.fn.hand.permits;
  own : AreOfPool l.fn.hand.pool (blocks_in l.packets.items);
}

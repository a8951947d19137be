use Rattle.std.proofs.Common.{◌≡◌, ◌+◌, ◌<◌}
use Rattle.block_pool.specs.Handles.{AreOfPool}
use Rattle.mix_stream.specs.Reading.{blocks_of, pins}
use Rattle.file_tests.proofs.mix.read_all.Given as goal

abbrev pub invariant-loop : goal.invariant-loop
invariant-loop g l = record {
  pool : l.hand.pool ≡ l.fn.hand.pool;
  own : AreOfPool l.hand.pool (blocks_of l.reader);
  permit : 0 < l.hand.permits + pins l.reader;
}

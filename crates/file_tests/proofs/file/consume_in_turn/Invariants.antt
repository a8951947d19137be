use Rattle.std.proofs.Common.{◌≡◌, ◌+◌}
use Rattle.block_pool.specs.Handles.{AreOfPool}
use Rattle.file_tests.proofs.file.consume_in_turn.Given as goal

abbrev pub invariant-loop-n : goal.invariant-loop-n
invariant-loop-n g l = record {
  own : AreOfPool l.hand.pool l.reader.blocks;
  pool : l.hand.pool ≡ l.fn.hand.pool;
  permits : l.hand.permits + l.reader.pinned ≡ l.fn.hand.permits + l.fn.reader.pinned;
}

use Rattle.std.proofs.Common.{◌≡◌, vec_len}
use Rattle.std.specs.Prelude.{vec_capacity}
use Rattle.block_pool.specs.Handles.{AreOfPool}
use Rattle.pool_tests.proofs.pool.spill.Given as goal

abbrev pub invariant-loop-n : goal.invariant-loop-n
invariant-loop-n g l = record {
  pool : l.hand.pool ≡ l.initial.hand.pool;
  permits : l.hand.permits ≡ l.initial.hand.permits;
  count : vec_len l.blocks ≡ l.n;
  room : vec_capacity l.blocks ≡ vec_capacity l.initial.blocks;
  own : AreOfPool l.initial.hand.pool l.blocks.items;
}

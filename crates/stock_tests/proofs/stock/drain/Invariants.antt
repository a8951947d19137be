use Rattle.std.proofs.Common.{◌≡◌, ◌+◌, ◌<◌, length}
use Rattle.block_pool.specs.Handles.{AreOfPool}
use Rattle.stock_tests.proofs.stock.drain.Given as goal

abbrev pub invariant-steps : goal.invariant-steps
invariant-steps g l = record {
  kinds : l.feed.kinds ≡ l.fn.feed.kinds;
  ops : l.feed.ops ≡ l.fn.feed.ops;
  keeps : l.feed.keeps ≡ l.fn.feed.keeps;
  pins : l.feed.pins ≡ 1;
  own : AreOfPool l.hand.pool l.feed.blocks;
  pool : l.hand.pool ≡ l.fn.hand.pool;
  permit : 0 < l.hand.permits + l.feed.pinned;
}

abbrev pub decreases-steps : goal.decreases-steps
decreases-steps g l = length l.feed.left

use Rattle.std.proofs.Common.{true}
use Rattle.block_pool.specs.Opening.{opened_with}
use Rattle.stock_tests.proofs.counting.count_apart.Goals as goal

pub finish-disk-requires-clause-own : goal.finish-disk-requires-clause-own
finish-disk-requires-clause-own g c = (opened_with 448 4096 true 0 0, c.passes_of-passes.ensures.own)

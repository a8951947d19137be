use Rattle.std.proofs.Common.{true}
use Rattle.block_pool.specs.Opening.{opened_with}
use Rattle.exchange_tests.proofs.spreading.outcome.Goals as goal

pub finish-disk-requires-clause-own : goal.finish-disk-requires-clause-own
finish-disk-requires-clause-own g c = (opened_with 28 4096 true 0 0, c.passes_of-passes.ensures.own)

use Rattle.std.proofs.Common.{◌≡◌, ◌++◌}
use Rattle.std.specs.Vec.Iter.{into_iter_items}
use Rattle.spread.specs.Dealing.{WentTo}
use Rattle.spread.proofs.dealing.send_blocks.Given as goal

abbrev pub invariant-loop-block : goal.invariant-loop-block
invariant-loop-block g l = record {
  rest : l.yielded ++ into_iter_items l.block-iterator ≡ l.fn.blocks.items;
  went : WentTo l.to l.yielded l.fn.send l.send;
}

use Rattle.std.proofs.Common.{◌≡◌, ◌++◌, length}
use Rattle.std.specs.Vec.Iter.{into_iter_items}
use Rattle.spread.specs.Dealing.{AreSent}
use Rattle.spread.proofs.dealing.send_parts.Given as goal

abbrev pub invariant-loop-part : goal.invariant-loop-part
invariant-loop-part g l = record {
  rest : l.yielded ++ into_iter_items l.part-iterator ≡ l.fn.parts.items;
  sent : AreSent l.yielded l.fn.send l.send;
  rank : l.to ≡ length l.yielded;
}

use Rattle.std.proofs.Common.{◌≡◌, ◌++◌, length, take, drop, vec_len}
use Rattle.std.specs.Prelude.{vec_capacity}
use Rattle.std.specs.List.{AllZip}
use Rattle.std.specs.Vec.Iter.{into_iter_items}
use Rattle.scatter.specs.Phases.{AllThree}
use Rattle.scatter.specs.Clearing.{IsPartIn, IsCleared}
use Rattle.scatter.proofs.clearing.clear_parts.Given as goal

abbrev pub invariant-loop-part : goal.invariant-loop-part
invariant-loop-part g l = record {
  rest : l.yielded ++ into_iter_items l.part-iterator ≡ l.fn.parts.items;
  left : into_iter_items l.hands ≡ drop (length l.yielded) l.fn.hands.items;
  own : AllZip IsPartIn (into_iter_items l.hands) (into_iter_items l.part-iterator);
  done : AllThree IsCleared l.yielded (take (length l.yielded) l.fn.hands.items) l.cleared.items;
  hand_count : vec_len l.cleared ≡ length l.yielded;
  hand_room : vec_capacity l.cleared ≡ vec_capacity l.fn.cleared;
}

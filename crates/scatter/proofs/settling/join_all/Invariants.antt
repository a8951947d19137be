use Rattle.std.proofs.Common.{◌≡◌, ◌++◌, length, take, drop, vec_len}
use Rattle.std.specs.Prelude.{vec_capacity}
use Rattle.std.specs.Vec.Iter.{into_iter_items}
use Rattle.scatter.specs.Phases.{AllThree}
use Rattle.scatter.specs.Carrying.{IsJoined}
use Rattle.scatter.proofs.settling.join_all.Given as goal

abbrev pub invariant-loop-front : goal.invariant-loop-front
invariant-loop-front l = record {
  rest : l.yielded ++ into_iter_items l.front-iterator ≡ l.fn.fronts.items;
  left : into_iter_items l.boxes ≡ drop (length l.yielded) l.fn.boxes.items;
  joined : AllThree IsJoined l.yielded (take (length l.yielded) l.fn.boxes.items) l.whole.items;
  count : vec_len l.whole ≡ length l.yielded;
  room : vec_capacity l.whole ≡ vec_capacity l.initial.whole;
}

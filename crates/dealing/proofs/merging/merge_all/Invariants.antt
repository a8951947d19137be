use Rattle.std.proofs.Common.{◌≡◌, ◌≤◌, ◌++◌, length, take, drop, vec_len}
use Rattle.std.specs.Prelude.{vec_capacity}
use Rattle.std.specs.Vec.Iter.{into_iter_items}
use Rattle.scatter.specs.Phases.{AllThree}
use Rattle.dealing.specs.Boxes.{IsMerged}
use Rattle.dealing.proofs.merging.merge_all.Given as goal

abbrev pub invariant-loop-first : goal.invariant-loop-first
invariant-loop-first l = record {
  rest : l.yielded ++ into_iter_items l.first-iterator ≡ l.fn.into.items;
  left : into_iter_items l.boxes ≡ drop (length l.yielded) l.fn.boxes.items;
  done : AllThree (IsMerged l.by) l.yielded (take (length l.yielded) l.fn.boxes.items) l.merged.items;
  count : vec_len l.merged ≡ length l.yielded;
  room : vec_len l.fn.into ≤ vec_capacity l.merged;
}

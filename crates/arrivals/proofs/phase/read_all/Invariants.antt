use Rattle.std.proofs.Common.{◌≡◌, ◌≤◌, ◌++◌, length, vec_len}
use Rattle.std.specs.Prelude.{vec_capacity}
use Rattle.std.specs.List.{AllZip}
use Rattle.std.specs.Vec.Iter.{into_iter_items}
use Rattle.dia_item.specs.KindList.{kind_list}
use Rattle.arrivals.specs.Phases.{IsReaderOf}
use Rattle.arrivals.proofs.phase.read_all.Given as goal

abbrev pub invariant-loop-inbox : goal.invariant-loop-inbox
invariant-loop-inbox l = record {
  rest : l.yielded ++ into_iter_items l.inbox-iterator ≡ l.fn.boxes.items;
  readers : AllZip (IsReaderOf (kind_list l.kinds)) l.yielded l.readers.items;
  count : vec_len l.readers ≡ length l.yielded;
  room : vec_len l.fn.boxes ≤ vec_capacity l.readers;
}

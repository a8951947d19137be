use Rattle.std.proofs.Common.{◌≡◌, ◌++◌, length, take, drop, vec_len}
use Rattle.std.specs.Prelude.{vec_capacity}
use Rattle.std.specs.List.{AllZip}
use Rattle.std.specs.Vec.Iter.{into_iter_items}
use Rattle.scatter.specs.Phases.{AllThree}
use Rattle.sink_files.specs.Ending.{CanEnd, IsBack, IsPartFrom}
use Rattle.sink_files.proofs.ending.end_all.Given as goal

abbrev pub invariant-loop-sink : goal.invariant-loop-sink
invariant-loop-sink g l = record {
  rest : l.yielded ++ into_iter_items l.sink-iterator ≡ l.fn.sinks.items;
  left : into_iter_items l.hands ≡ drop (length l.yielded) l.fn.hands.items;
  own : AllZip (CanEnd l.end) (into_iter_items l.sink-iterator) (into_iter_items l.hands);
  done : AllThree IsBack l.yielded (take (length l.yielded) l.fn.hands.items) l.ended.items;
  made : AllThree IsPartFrom l.yielded l.ended.items l.parts.items;
  hand_count : vec_len l.ended ≡ length l.yielded;
  part_count : vec_len l.parts ≡ length l.yielded;
  hand_room : vec_capacity l.ended ≡ vec_capacity l.fn.room.hands;
  part_room : vec_capacity l.parts ≡ vec_capacity l.fn.room.parts;
}

use Rattle.std.proofs.Common.{◌≡◌, ◌++◌, length, take, drop, map, vec_len}
use Rattle.std.specs.Prelude.{vec_capacity}
use Rattle.std.specs.List.{AllZip}
use Rattle.std.specs.Vec.Iter.{into_iter_items}
use Rattle.scatter.specs.Phases.{AllThree}
use Rattle.arrivals.specs.Phases.{IsEnded, sink_in, IsOwn}
use Rattle.arrivals.proofs.ending.end_all.Given as goal

abbrev pub invariant-loop-work : goal.invariant-loop-work
invariant-loop-work g l = record {
  rest : l.yielded ++ into_iter_items l.work-iterator ≡ l.fn.works.items;
  left : into_iter_items l.hands ≡ drop (length l.yielded) l.fn.hands.items;
  own : AllZip IsOwn (into_iter_items l.work-iterator) (into_iter_items l.hands);
  done : AllThree IsEnded l.yielded (take (length l.yielded) l.fn.hands.items) l.ended.items;
  sinks : l.sinks.items ≡ map sink_in l.yielded;
  hand_count : vec_len l.ended ≡ length l.yielded;
  sink_count : vec_len l.sinks ≡ length l.yielded;
  hand_room : vec_capacity l.ended ≡ vec_capacity l.fn.back.hands;
  sink_room : vec_capacity l.sinks ≡ vec_capacity l.fn.back.sinks;
}

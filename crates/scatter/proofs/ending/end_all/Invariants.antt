use Rattle.std.proofs.Common.{◌≡◌, ◌++◌, length, take, drop, map, vec_len}
use Rattle.std.specs.Prelude.{vec_capacity}
use Rattle.std.specs.List.{AllZip}
use Rattle.std.specs.Vec.Iter.{into_iter_items}
use Rattle.scatter.specs.Phases.{AllThree, IsEnded, file_kept, sink_in, IsOwn}
use Rattle.scatter.proofs.ending.end_all.Given as goal

abbrev pub invariant-loop-send : goal.invariant-loop-send
invariant-loop-send g l = record {
  rest : l.yielded ++ into_iter_items l.send-iterator ≡ l.fn.sends.items;
  left : into_iter_items l.hands ≡ drop (length l.yielded) l.fn.hands.items;
  own : AllZip IsOwn (into_iter_items l.send-iterator) (into_iter_items l.hands);
  done : AllThree IsEnded l.yielded (take (length l.yielded) l.fn.hands.items) l.ended.items;
  parts : l.parts.items ≡ map file_kept l.yielded;
  sinks : l.sinks.items ≡ map sink_in l.yielded;
  hand_count : vec_len l.ended ≡ length l.yielded;
  part_count : vec_len l.parts ≡ length l.yielded;
  sink_count : vec_len l.sinks ≡ length l.yielded;
  hand_room : vec_capacity l.ended ≡ vec_capacity l.fn.back.hands;
  part_room : vec_capacity l.parts ≡ vec_capacity l.fn.back.parts;
  sink_room : vec_capacity l.sinks ≡ vec_capacity l.fn.back.sinks;
}

use Rattle.std.proofs.Common.{◌≡◌, ◌≤◌, length, take, vec_len}
use Rattle.std.specs.Prelude.{vec_capacity}
use Rattle.std.specs.List.{AllZip}
use Rattle.dia_item.specs.KindList.{kind_list}
use Rattle.sink_files.specs.Ending.{IsFreshSink}
use Rattle.sink_files.proofs.making.sinks_for.Given as goal

abbrev pub invariant-loop-hand : goal.invariant-loop-hand
invariant-loop-hand g l = record {
  fresh : AllZip (IsFreshSink (kind_list l.kinds)) l.sinks.items (take l.hand-index l.hands);
  len : vec_len l.sinks ≡ l.hand-index;
  room : length l.hands ≤ vec_capacity l.sinks;
}

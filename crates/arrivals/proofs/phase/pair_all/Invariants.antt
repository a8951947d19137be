use Rattle.std.proofs.Common.{◌≡◌, ◌++◌, length, take, drop, vec_len}
use Rattle.std.specs.Prelude.{vec_capacity}
use Rattle.std.specs.Vec.Iter.{into_iter_items}
use Rattle.scatter.specs.Phases.{AllThree}
use Rattle.arrivals.specs.Phases.{HasStarted}
use Rattle.arrivals.proofs.phase.pair_all.Given as goal

abbrev pub invariant-loop-reader : goal.invariant-loop-reader
invariant-loop-reader g l = record {
  rest : l.yielded ++ into_iter_items l.reader-iterator ≡ l.fn.readers.items;
  left : into_iter_items l.sinks ≡ drop (length l.yielded) l.fn.sinks.items;
  started : AllThree HasStarted l.yielded (take (length l.yielded) l.fn.sinks.items) l.works.items;
  count : vec_len l.works ≡ length l.yielded;
  room : vec_capacity l.works ≡ vec_capacity l.fn.works;
}

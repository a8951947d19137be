use Rattle.std.proofs.Common.{◌≡◌, ◌++◌, length, take, drop, vec_len}
use Rattle.std.specs.Prelude.{vec_capacity}
use Rattle.std.specs.Vec.Iter.{into_iter_items}
use Rattle.scatter.specs.Phases.{AllThree, HasBegun}
use Rattle.scatter.proofs.phase.pair_all.Given as goal

abbrev pub invariant-loop-feed : goal.invariant-loop-feed
invariant-loop-feed g l = record {
  rest : l.yielded ++ into_iter_items l.feed-iterator ≡ l.fn.feeds.items;
  left : into_iter_items l.sinks ≡ drop (length l.yielded) l.fn.sinks.items;
  begun : AllThree HasBegun l.yielded (take (length l.yielded) l.fn.sinks.items) l.sends.items;
  count : vec_len l.sends ≡ length l.yielded;
  room : vec_capacity l.sends ≡ vec_capacity l.fn.sends;
}

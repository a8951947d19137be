use Rattle.std.proofs.Common.{◌≡◌, ◌≤◌, vec_len}
use Rattle.std.specs.Prelude.{All, vec_capacity}
use Rattle.feed_actions.specs.Counting.{IsFreshCounter}
use Rattle.feed_actions.proofs.counting.counters_for.Given as goal

abbrev pub invariant-loop-rank : goal.invariant-loop-rank
invariant-loop-rank g l = record {
  len : vec_len l.counters ≡ l._rank;
  fresh : All IsFreshCounter l.counters.items;
  room : l.fn.count ≤ vec_capacity l.counters;
}

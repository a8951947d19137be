use Rattle.std.proofs.Common.{◌≡◌, ◌≤◌, map, length, take}
use Rattle.std.specs.Prelude.{vec_capacity}
use Rattle.feed_actions.specs.Counting.{rows_counted}
use Rattle.feed_counts.proofs.by_rank.counts_of.Given as goal

abbrev pub invariant-loop-counter : goal.invariant-loop-counter
invariant-loop-counter g l = record {
  counts : l.counts.items ≡ map rows_counted (take l.counter-index l.counters);
  room : length l.counters ≤ vec_capacity l.counts;
}

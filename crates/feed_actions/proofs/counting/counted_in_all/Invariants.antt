use Rattle.std.proofs.Common.{◌≡◌, ◌*◌, ◌^◌, ◌≤◌, take}
use Rattle.std.specs.List.{sum_by}
use Rattle.feed_actions.specs.Counting.{rows_counted}
use Rattle.feed_actions.proofs.counting.counted_in_all.Given as goal

abbrev pub invariant-loop-counter : goal.invariant-loop-counter
invariant-loop-counter g l = record {
  sum : l.rows ≡ sum_by rows_counted (take l.counter-index l.counters);
  few : l.rows ≤ l.counter-index * 2 ^ 40;
}

use Rattle.std.proofs.Common.{◌≡◌, ◌*◌, ◌^◌, ◌≤◌, take}
use Rattle.std.specs.List.{sum_by}
use Rattle.feed_actions.specs.Adding.{rows_added}
use Rattle.feed_actions.proofs.adding.total.Given as goal

abbrev pub invariant-loop-summer : goal.invariant-loop-summer
invariant-loop-summer g l = record {
  sum : l.rows ≡ sum_by rows_added (take l.summer-index l.summers);
  few : l.rows ≤ l.summer-index * 2 ^ 40;
}

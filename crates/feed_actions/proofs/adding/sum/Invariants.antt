use Rattle.std.proofs.Common.{◌≡◌, ◌%◌, ◌^◌, take}
use Rattle.std.specs.List.{sum_by}
use Rattle.feed_actions.specs.Adding.{sum_in}
use Rattle.feed_actions.proofs.adding.sum.Given as goal

abbrev pub invariant-loop-summer : goal.invariant-loop-summer
invariant-loop-summer g l = l.sum ≡ sum_by sum_in (take l.summer-index l.summers) % 2 ^ 64

use Rattle.std.proofs.Common.{◌≡◌, drop}
use Rattle.std.specs.List.{slice_get}
use Rattle.worker_step.specs.Order.{live_from}
use Rattle.worker_step.proofs.order.live_rank.Given as goal

abbrev pub invariant-loop-rank : goal.invariant-loop-rank
invariant-loop-rank l = record {
  found : slice_get (live_from 0 l.live) l.fn.place ≡ slice_get (live_from l.rank (drop l.rank l.live)) l.left;
}

use Rattle.std.proofs.Common.{◌-◌, length}
use Rattle.std.specs.List.{AllZip}
use Rattle.worker_step.specs.Order.{IsDrawn, Stands, live_from, steps_left}
use Rattle.worker_step.proofs.order.run_in_order.Given as goal

abbrev pub invariant-steps : goal.invariant-steps
invariant-steps g l = record {
  stands : Stands g.T.Task l.tasks l.live l.fault;
  follows : AllZip g.T.Task.follows l.fn.tasks l.tasks;
  drawn : IsDrawn (length l.fn.tasks - length (live_from 0 l.live)) l.fn.seed l.seed;
}

abbrev pub decreases-steps : goal.decreases-steps
decreases-steps g l = steps_left g.T.Task.left l.tasks l.live

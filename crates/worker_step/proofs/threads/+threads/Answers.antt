use Rattle.std.proofs.Common.{rules, ◌≡◌, length}
use Rattle.worker_step.proofs.Faults.{alone_err, two_err}
use Rattle.worker_step.proofs.threads.+threads.Goals as goal

pub run_some-returns-then-is_empty-clause-faulted : goal.run_some-returns-then-is_empty-clause-faulted
run_some-returns-then-is_empty-clause-faulted g t c =
    let none : length c.args.rest.now ≡ 0 = search rules in
    alone_err g.T.Task.done g.T.Task.faulted c.work.result c.work.new.task c.args.rest.now none c.work.ensures.faulted

pub run_some-returns-clause-faulted : goal.run_some-returns-clause-faulted
run_some-returns-clause-faulted g t c =
    let one = c.run_both-one.ensures.first in
    let others = c.run_both-one.ensures.rest in
    rw c.lowest.ensures (two_err g.T.Task.done g.T.Task.faulted c.run_both-one.result.0 c.run_both-one.result.1 c.run_both-one.new.first c.run_both-one.new.rest one.1 one.2 others.1 others.2)

use Rattle.std.proofs.Common.{rules, ◌≡◌, length, arith}
use Rattle.worker_step.specs.Order.{live_from}
use Rattle.worker_step.proofs.Live.{none_live, some_live, some_picked}
use Rattle.worker_step.proofs.order.draw.Goals as goal

pub returns-then-count-eq0-clause-none : goal.returns-then-count-eq0-clause-none
returns-then-count-eq0-clause-none c =
    let none : length (live_from 0 c.args.live.now) ≡ 0 = search rules in
    none_live 0 c.args.live.now none

pub returns-clause-live : goal.returns-clause-live
returns-clause-live c = some_live c.live_rank.result c.args.live.now _ c.live_rank.ensures

pub returns-clause-none : goal.returns-clause-none
returns-clause-none c = some_picked c.live_rank.result c.args.live.now _ _ c.live_rank.ensures (omega arith)

use Rattle.std.proofs.Common.{rules, ◌<◌}
use Rattle.worker_step.proofs.Following.{follow_set}
use Rattle.worker_step.proofs.Live.{one_fewer}
use Rattle.worker_step.proofs.Standing.{stands_done, stands_fault}
use Rattle.worker_step.proofs.StepsLeft.{falls_more, falls_end}
use Rattle.worker_step.proofs.order.take_step.Goals as goal

pub returns-in-Ok-More-clause-follows : goal.returns-in-Ok-More-clause-follows
returns-in-Ok-More-clause-follows g c =
    let step : g.T.Task.follows c.index-tasks-rank.result c.step.new.self = search rules in
    follow_set g.T.Task.follows g.met.T.Task.follows_refl _ _ c.index-tasks-rank.result _ c.requires.within c.index-tasks-rank.is step

pub returns-in-Ok-More-clause-falls : goal.returns-in-Ok-More-clause-falls
returns-in-Ok-More-clause-falls g c =
    let falls : g.T.Task.left c.step.new.self < g.T.Task.left c.index-tasks-rank.result = search rules in
    falls_more g.T.Task.left _ _ _ c.index-tasks-rank.result _ c.requires.within c.requires.stands.long c.requires.live c.index-tasks-rank.is falls

pub returns-in-Ok-Done-clause-stands : goal.returns-in-Ok-Done-clause-stands
returns-in-Ok-Done-clause-stands g c =
    let end : g.T.Task.done c.step.new.self = search rules in
    stands_done g.T.Task _ _ _ _ c.step.new.self c.requires.stands c.requires.within c.requires.live end

pub returns-in-Ok-Done-clause-follows : goal.returns-in-Ok-Done-clause-follows
returns-in-Ok-Done-clause-follows g c =
    let step : g.T.Task.follows c.index-tasks-rank.result c.step.new.self = search rules in
    follow_set g.T.Task.follows g.met.T.Task.follows_refl _ _ c.index-tasks-rank.result _ c.requires.within c.index-tasks-rank.is step

pub returns-in-Ok-Done-clause-falls : goal.returns-in-Ok-Done-clause-falls
returns-in-Ok-Done-clause-falls g c = falls_end g.T.Task.left _ _ _ _ c.requires.within c.requires.stands.long c.requires.live

pub returns-in-Err-clause-stands : goal.returns-in-Err-clause-stands
returns-in-Err-clause-stands g c =
    rw c.note.ensures (stands_fault g.T.Task _ _ _ _ c.step.new.self _ c.requires.stands c.requires.within c.requires.live c.in-Err.ensures.faulted)

pub returns-in-Err-clause-follows : goal.returns-in-Err-clause-follows
returns-in-Err-clause-follows g c =
    let step : g.T.Task.follows c.index-tasks-rank.result c.step.new.self = search rules in
    follow_set g.T.Task.follows g.met.T.Task.follows_refl _ _ c.index-tasks-rank.result _ c.requires.within c.index-tasks-rank.is step

pub returns-in-Err-clause-falls : goal.returns-in-Err-clause-falls
returns-in-Err-clause-falls g c = falls_end g.T.Task.left _ _ _ _ c.requires.within c.requires.stands.long c.requires.live

pub returns-in-Ok-Done-clause-one : goal.returns-in-Ok-Done-clause-one
returns-in-Ok-Done-clause-one g c = one_fewer 0 c.args.live.now c.args.rank

pub returns-in-Err-clause-one : goal.returns-in-Err-clause-one
returns-in-Err-clause-one g c = one_fewer 0 c.args.live.now c.args.rank

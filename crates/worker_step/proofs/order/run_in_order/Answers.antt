use Rattle.std.proofs.Common.{rules, ◌≡◌, ◌∙◌, ℕ, suc, length, get_or, true, false, All, refl, ap, arith}
use Rattle.worker_step.specs.Order.{live_from, next_number}
use Rattle.worker_step.proofs.Following.{all_follow, follow_trans}
use Rattle.worker_step.proofs.Live.{all_live, all_marked}
use Rattle.worker_step.proofs.Standing.{stands_first, final_fault}
use Rattle.worker_step.proofs.order.run_in_order.Goals as goal

pub steps-init : goal.steps-init
steps-init g c =
    let n = length c.args.tasks.now in
    let live = c.split_at_mut-live.result.0.now in
    let all : (k : ℕ) → get_or live k true ≡ true = λ k. rw c.split_at_mut-live.ensures.front (all_marked n 16 k) in
    let count : length (live_from 0 live) ≡ length live = all_live 0 live all in
    let long : length live ≡ n = c.split_at_mut-live.ensures.front_len in
    record {
      stands = stands_first g.T.Task c.args.tasks.now live long all c.requires.ready;
      follows = all_follow g.T.Task.follows g.met.T.Task.follows_refl c.args.tasks.now;
      drawn = record { draws = 0; enough = omega (arith, count, long); is = refl };
    }

pub steps-preserved : goal.steps-preserved
steps-preserved g c =
    let before = c.steps.invariant.drawn in
    let enough = before.enough in
    let one = c.take_step.ensures.one in
    let next : c.draw.new.seed ≡ next_number c.steps.seed = search rules in
    record {
      stands = c.take_step.ensures.stands;
      follows = follow_trans g.T.Task.follows g.met.T.Task.follows_trans _ _ _ c.steps.invariant.follows c.take_step.ensures.follows;
      drawn = record { draws = suc before.draws; enough = omega (arith, enough, one); is = next ∙ ap next_number before.is };
    }

pub returns-in-Some-fault-clause-faulted : goal.returns-in-Some-fault-clause-faulted
returns-in-Some-fault-clause-faulted g c =
    let none : All (λ b. b ≡ false) c.steps.live = search rules in
    final_fault g.T.Task c.steps.tasks c.steps.live c.steps.fault _ c.in-Some-fault.fault c.in-Some-fault.is c.steps.invariant.stands none

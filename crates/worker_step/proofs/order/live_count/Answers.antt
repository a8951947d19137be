use Rattle.std.proofs.Common.{rules, ◌≡◌, ◌∙◌, count_by}
use Rattle.worker_step.proofs.Live.{live_counted}
use Rattle.worker_step.proofs.order.live_count.Goals as goal

pub returns : goal.returns
returns c =
    let counted : c.count.result ≡ count_by (λ b. b) c.args.live.now = search rules in
    counted ∙ live_counted c.args.live.now

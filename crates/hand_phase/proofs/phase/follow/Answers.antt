use Rattle.block_pool.specs.Handles.{Follows}
use Rattle.hand_phase.proofs.Zips.{zip_weaken}
use Rattle.hand_phase.proofs.phase.follow.Goals as goal

pub returns : goal.returns
returns g c =
    zip_weaken g.W.LentTask.keeps (λ a b. Follows (g.H.AnyHand.hand a) (g.H.AnyHand.hand b)) g.met.W.HandTask.keeps_follows c.args.began.value.items c.args.hands.now c.requires

use Rattle.std.proofs.Common.{ap, arith}
use Rattle.pool_tests.proofs.Sharing.{within}
use Rattle.pool_tests.proofs.turn.counter.Counter.close.Goals as goal

pub returns : goal.returns
returns g c = let b = within _ _ c.close-total.ensures.meets in let e = ap (λ share. share.amount) c.part.view_is in omega arith

use Rattle.std.proofs.Common.{◌≤◌, ℕ, ap, subst, sym, arith, lit≤}
use Rattle.std.specs.Prelude.{is_some}
use Rattle.pool_tests.proofs.Working.{ready_each}
use Rattle.exchange_tests.proofs.linking.open.Goals as goal

pub returns-in-Ok-clause-ready : goal.returns-in-Ok-clause-ready
returns-in-Ok-clause-ready c =
    let disk = c.new-disk.ensures in
    let shares = c.in-Ok.ensures.shares in
    let ready = ready_each c.in-Ok.pool 28 4096 _ _ _ 2 14 c.in-Ok.shares.items (ap is_some disk.slots) disk.faults disk.writes (omega arith) shares in
    λ k d below.
    let its = ready k d below in
    (its.0, its.1, subst (λ (n : ℕ). 3 ≤ n) (sym (shares.each k d below).3) (lit≤ tt))

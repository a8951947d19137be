use Rattle.std.proofs.Common.{◌≡◌, ap, sym, ◌∙◌, subst, arith}
use Rattle.std.specs.Prelude.{All}
use Rattle.block_pool.specs.Handles.{PoolName}
use Rattle.block_pool.specs.Workers.{IsReady}
use Rattle.block_pool.proofs.Ended.{last_of}
use Rattle.file_tests.specs.Workers.{pool_of_five}
use Rattle.file_tests.proofs.mail.packets_come_in_their_order.Goals as goal

pub new-hand-requires : goal.new-hand-requires
new-hand-requires g c =
    let Ready = IsReady (pool_of_five c.in-Ok.opened.0) in
    let last = last_of c.pop.new.self.items c.in-Some.share Ready (subst (All Ready) c.in-Some.ensures.items c.in-Ok.ensures.ready) in
    record { own = (ap (λ (p : PoolName). p.turn) last.0, last.1 ∙ sym last.0) }

pub exchange_three-outcome-requires-clause-permit : goal.exchange_three-outcome-requires-clause-permit
exchange_three-outcome-requires-clause-permit g c =
    let Ready = IsReady (pool_of_five c.in-Ok.opened.0) in
    let last = last_of c.pop.new.self.items c.in-Some.share Ready (subst (All Ready) c.in-Some.ensures.items c.in-Ok.ensures.ready) in
    omega (arith, c.new-hand.ensures.permits, last.2)

pub exchange_three-outcome-requires-clause-block : goal.exchange_three-outcome-requires-clause-block
exchange_three-outcome-requires-clause-block g c =
    let Ready = IsReady (pool_of_five c.in-Ok.opened.0) in
    let last = last_of c.pop.new.self.items c.in-Some.share Ready (subst (All Ready) c.in-Some.ensures.items c.in-Ok.ensures.ready) in
    let block : c.new-hand.result.pool.opening.block ≡ 4096 = ap (λ (p : PoolName). p.opening.block) (c.new-hand.ensures.pool ∙ last.0) in
    omega (arith, block)

pub end-disk-requires-clause-own : goal.end-disk-requires-clause-own
end-disk-requires-clause-own g c =
    let Ready = IsReady (pool_of_five c.in-Ok.opened.0) in
    let last = last_of c.pop.new.self.items c.in-Some.share Ready (subst (All Ready) c.in-Some.ensures.items c.in-Ok.ensures.ready) in
    ap (λ (p : PoolName). p.turn) (c.end-pass.ensures.pool.0 ∙ c.exchange_three-outcome.ensures.same.0 ∙ c.new-hand.ensures.pool ∙ last.0)

use Rattle.std.proofs.Common.{ap, subst}
use Rattle.std.specs.Prelude.{All}
use Rattle.block_pool.specs.Handles.{PoolName}
use Rattle.block_pool.specs.Workers.{IsReady}
use Rattle.block_pool.proofs.Ended.{last_of}
use Rattle.file_tests.specs.Workers.{pool_of_five}
use Rattle.file_tests.proofs.mail.packets_of_four_threads_come_once_and_in_order.Goals as goal

pub end-disk-requires-clause-own : goal.end-disk-requires-clause-own
end-disk-requires-clause-own g c =
    let Ready = IsReady (pool_of_five c.in-Ok.opened.0) in
    let last = last_of c.pop.new.self.items c.in-Some.share Ready (subst (All Ready) c.in-Some.ensures.items c.in-Ok.ensures.ready) in
    ap (λ (p : PoolName). p.turn) last.0

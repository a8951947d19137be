use Rattle.std.proofs.Common.{◌/◌, ap, subst, arith}
use Rattle.std.specs.Prelude.{All, is_some}
use Rattle.block_pool.specs.Workers.{IsReady, new_pool}
use Rattle.block_pool.proofs.Ended.{last_of}
use Rattle.pool_tests.proofs.Working.{ready_each}
use Rattle.file_tests.proofs.input.open_one.Goals as goal

pub returns-in-Ok : goal.returns-in-Ok
returns-in-Ok c =
    let disk = c.new-disk.ensures in
    let frames = c.args.limit / 4096 in
    let ready = ready_each c.in-Ok.pool frames 4096 _ _ _ 1 13 c.in-Ok.shares.items (ap is_some disk.slots) disk.faults disk.writes (omega arith) c.in-Ok.ensures.shares in
    let items = subst (All (IsReady (new_pool c.in-Ok.pool frames 4096))) c.in-Some.ensures.items ready in
    record { ready = last_of c.pop-share.new.self.items c.in-Some.share (IsReady (new_pool c.in-Ok.pool frames 4096)) items }

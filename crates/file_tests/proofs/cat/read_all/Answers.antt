use Rattle.std.proofs.Common.{refl, arith}
use Rattle.file_tests.proofs.cat.read_all.Goals as goal

pub loop-init : goal.loop-init
loop-init g c =
    let e = c.in-Ok.ensures in
    let some = c.requires.permit in
    record { pool = refl; own = e.pools c.args.hand.now.pool c.requires.own; permit = omega (arith, some, e.pins) }

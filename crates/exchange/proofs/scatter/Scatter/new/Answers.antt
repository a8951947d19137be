use Rattle.std.proofs.Common.{arith}
use Rattle.exchange.proofs.Sending.{serves_first}
use Rattle.exchange.proofs.scatter.Scatter.new.Goals as goal

pub returns-clause-serves : goal.returns-clause-serves
returns-clause-serves g c = λ d permits block.
    let began = c.of-began.ensures in
    let all = serves_first d c.in_ok-frames.frames.items (g.P.Post.sent c.args.post) c.args.workers c.in_ok-frames.ensures.none c.requires.lanes c.requires.few (omega (arith, c.ranges.workers.fits)) permits block in
    rw (began, c.requires.workers) all

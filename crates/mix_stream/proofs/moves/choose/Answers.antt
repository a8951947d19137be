use Rattle.std.proofs.Common.{◌<◌, arith}
use Rattle.mix_stream.proofs.Turning.{ready_or_empty, cut_off}
use Rattle.mix_stream.proofs.moves.choose.Goals as goal

pub returns-then-stream-eq0-clause-some : goal.returns-then-stream-eq0-clause-some
returns-then-stream-eq0-clause-some c =
    let s = c.args.stream.now in
    ready_or_empty s c.is_empty.result c.is_empty.ensures (omega (arith, s.packets.ok.0)) (omega (arith, c.if-stream-eq0.true))

pub returns-else-bring_forward-clause-refused : goal.returns-else-bring_forward-clause-refused
returns-else-bring_forward-clause-refused c =
    let some : 0 < c.args.stream.now.pending = omega (arith, c.if-stream-eq0.false) in
    cut_off c.args.stream.now c.requires.inside c.requires.read some c.if-bring_forward.ensures.none.1

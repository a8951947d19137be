use Rattle.std.proofs.Common.{◌<◌, length, arith}
use Rattle.mix_stream.proofs.Taking.{none_more}
use Rattle.mix_stream.proofs.moves.place_of.Goals as goal

pub loop-at-preserved : goal.loop-at-preserved
loop-at-preserved c =
    let ps = c.args.packets.now.items in
    let lt : c.loop-at.at < length ps = omega (arith, c.loop-at-test.true, c.len-at-end.ensures, c.args.packets.now.ok.0) in
    none_more ps c.loop-at.at c.args.from c.index.result.now lt c.index.ensures c.if-index-from.false c.loop-at.invariant

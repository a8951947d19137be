use Rattle.std.proofs.Common.{Option, ap, arith}
use Rattle.block_pool.specs.Handles.{FrameValue}
use Rattle.dia_file.specs.Frames.{frames}
use Rattle.exchange.proofs.Counting.{open_bound}
use Rattle.exchange.proofs.scatter.deal.Goals as goal

pub put_row-requires-clause-permit : goal.put_row-requires-clause-permit
put_row-requires-clause-permit g c =
    let fs = c.args.frames.now.items in
    let o : Option FrameValue = c.index_mut.result.now in
    let ok = c.args.frames.now.ok in
    let bound = open_bound fs c.args.to o (omega (arith, c.requires.within, ok)) in
    let same = ap frames c.index_mut.ensures.value in
    omega (arith, bound, same, c.requires.permit, ok)

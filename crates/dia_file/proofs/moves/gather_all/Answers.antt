use Rattle.dia_file.proofs.Gathering.{gathered_more, moved_then}
use Rattle.dia_file.proofs.moves.gather_all.Goals as goal

pub loop-preserved : goal.loop-preserved
loop-preserved g c =
    let e = c.gather.ensures in
    gathered_more _ _ _ _ _ _ _ c.loop.invariant e.placed e.moved e.read e.hidden e.permits e.gone e.follows

pub returns-in_err-gather-clause-moved : goal.returns-in_err-gather-clause-moved
returns-in_err-gather-clause-moved g c = moved_then _ _ _ _ _ _ c.loop.invariant.follows c.loop.invariant.moved c.gather.ensures.moved

pub returns-clause-moved : goal.returns-clause-moved
returns-clause-moved g c = moved_then _ _ _ _ _ _ c.loop.invariant.follows c.loop.invariant.moved c.gather.ensures.moved

use Rattle.dia_text.proofs.PieceLemmas.{pieces-one, pieces-first}
use Rattle.dia_text.proofs.cut.cut_off.Goals as goal

pub returns-in-None-clause-pieces : goal.returns-in-None-clause-pieces
returns-in-None-clause-pieces c = pieces-one c.args.separator c.args.bytes.now c.requires c.in-None.ensures.unbroken

pub returns-in-Some-clause-pieces : goal.returns-in-Some-clause-pieces
returns-in-Some-clause-pieces c =
    rw (c.split_at.ensures.front, c.split_at-in-Some.ensures.back) (pieces-first c.args.separator c.in-Some.i c.args.bytes.now c.in-Some.ensures.unbroken c.in-Some.ensures.ends)

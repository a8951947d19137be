use Rattle.dia_lines.proofs.InputLemmas.{reading_end, reading_refused, input_from, own_before}
use Rattle.dia_lines.specs.declared.input.InputErr.TheVariants.{Refused}
use Rattle.dia_lines.proofs.input.take_opened.Goals as goal

pub returns-in-Ok-clause-took : goal.returns-in-Ok-clause-took
returns-in-Ok-clause-took g c =
    reading_end g.T.LineTaker (g.N.Shelf.left c.args.shelf.now) (g.N.Shelf.left c.take_all.new.shelf) c.args.taker.now c.take_all.new.taker c.finish.new.taker c.take_all.new.cutter _
    c.in_ok-take_all.ensures.ok.0 c.in_ok-take_all.ensures.within c.in_ok-take_all.ensures.ok.1 c.in-Ok.ensures.ok

pub returns-in-Ok-clause-lines : goal.returns-in-Ok-clause-lines
returns-in-Ok-clause-lines g c =
    let h = c.in_ok-take_all.ensures.ok.0 in (h.seen, c.in-Ok.ensures.ok c.args.taker.now h.seen h.taken)

pub returns-clause-refused : goal.returns-clause-refused
returns-clause-refused g c =
    input_from g.T.LineTaker g.met.T.LineTaker.refused_from (Refused c.in-Err.refusal) (g.N.Shelf.left c.args.shelf.now) c.args.taker.now c.finish.new.taker c.args.desk.now
    c.take_all.new.desk c.finish.new.desk c.take_all.ensures.follows
    (reading_refused g.T.LineTaker (g.N.Shelf.left c.args.shelf.now) (g.N.Shelf.left c.take_all.new.shelf) c.args.taker.now c.take_all.new.taker c.finish.new.taker c.take_all.new.desk
    c.finish.new.desk c.take_all.new.cutter _ c.in-Err.refusal c.in_ok-take_all.ensures.ok.0 c.in_ok-take_all.ensures.ok.1 c.in-Err.ensures.refused)

pub returns-clause-own : goal.returns-clause-own
returns-clause-own g c =
    own_before g.T.LineTaker g.met.T.LineTaker.refused_from c.finish.new.taker c.args.desk.now c.take_all.new.desk c.finish.new.desk (Refused c.in-Err.refusal) c.take_all.ensures.follows c.in-Err.ensures.own

use Rattle.std.proofs.Common.{◌≡◌, Err, arith, rules, refl}
use Rattle.dia_edge.proofs.ShelfLemmas.{stays_none}
use Rattle.dia_lines.proofs.InputLemmas.{reading_none, input_from, own_before}
use Rattle.dia_lines.proofs.input.take_all.Goals as goal

pub loop-total-init : goal.loop-total-init
loop-total-init g c = record {
  reading = reading_none g.T.LineTaker c.args.taker.now c.args.cutter.now (g.N.Shelf.left c.args.shelf.now) c.requires.taken;
  within = omega arith;
  few = omega (arith, c.requires.none);
  stays = stays_none g.N.Shelf.holds g.N.Shelf.left g.N.Shelf.asked g.N.Shelf.is_fixed g.N.Shelf.faults c.args.shelf.now;
  asked = refl;
  count = c.requires.count;
  serves = c.requires.serves;
  keeps = g.met.T.LineTaker.keeps_refl c.args.taker.now c.args.desk.now;
  follows = g.met.T.LineTaker.follows_refl c.args.desk.now;
}

pub returns-in_err-n-clause-refused : goal.returns-in_err-n-clause-refused
returns-in_err-n-clause-refused g c =
    let e = c.in_err-n.field-0.0 in
    let same : c.from_residual.result ≡ Err e = search rules in
    let i = c.loop-total.invariant in
    rw same (input_from g.T.LineTaker g.met.T.LineTaker.refused_from e (g.N.Shelf.left c.args.shelf.now) c.args.taker.now c.take_piece.new.taker c.args.desk.now c.loop-total.desk
    c.take_piece.new.desk i.follows (c.in_err-n.ensures.refused c.args.taker.now (g.N.Shelf.left c.args.shelf.now) i.reading))

pub returns-in_err-n-clause-own : goal.returns-in_err-n-clause-own
returns-in_err-n-clause-own g c =
    let e = c.in_err-n.field-0.0 in
    let same : c.from_residual.result ≡ Err e = search rules in
    rw same (own_before g.T.LineTaker g.met.T.LineTaker.refused_from c.take_piece.new.taker c.args.desk.now c.loop-total.desk c.take_piece.new.desk e c.loop-total.invariant.follows c.in_err-n.ensures.own)

use Rattle.std.proofs.Common.{◌≡◌, arith, rules, Err}
use Rattle.dia_lines.proofs.TakeLemmas.{consumes_none, consumes_then, cut_after, taker_before}
use Rattle.dia_lines.proofs.cutter.Cutter.take.Goals as goal

pub loop-rest-init : goal.loop-rest-init
loop-rest-init g c = record {
  consumed = consumes_none g.T.LineTaker c.args.taker.now c.args.self.now c.args.piece.now;
  few = omega arith;
  count = c.requires.count;
  serves = c.requires.serves;
  keeps = g.met.T.LineTaker.keeps_refl c.args.taker.now c.args.desk.now;
  follows = g.met.T.LineTaker.follows_refl c.args.desk.now;
}

pub loop-rest-preserved : goal.loop-rest-preserved
loop-rest-preserved g c =
    let i = c.loop-rest.invariant in
    record {
      consumed = consumes_then g.T.LineTaker _ _ _ _ _ _ _ _ _ i.consumed c.in_ok-rest.ensures.ok;
      few = omega (arith, c.in_ok-rest.ensures.shorter, c.in_ok-rest.ensures.ended, i.few);
      count = c.in_ok-rest.ensures.count;
      serves = c.in_ok-rest.ensures.serves;
      keeps = g.met.T.LineTaker.keeps_trans _ _ _ _ _ _ i.keeps c.step.ensures.keeps;
      follows = g.met.T.LineTaker.follows_trans _ _ _ i.follows c.step.ensures.follows;
    }

pub returns-in_err-rest-clause-refused : goal.returns-in_err-rest-clause-refused
returns-in_err-rest-clause-refused g c =
    let e = c.in_err-rest.field-0.0 in
    let same : c.from_residual.result ≡ Err e = search rules in
    let i = c.loop-rest.invariant in
    rw same (cut_after g.T.LineTaker g.met.T.LineTaker.refused_from c.args.taker.now c.loop-rest.taker c.step.new.taker c.args.self.now c.loop-rest.self c.args.desk.now c.loop-rest.desk c.step.new.desk
    e c.args.piece.now c.loop-rest.rest.now i.follows i.consumed c.in_err-rest.ensures.refused)

pub returns-in_err-rest-clause-own : goal.returns-in_err-rest-clause-own
returns-in_err-rest-clause-own g c =
    let e = c.in_err-rest.field-0.0 in
    let same : c.from_residual.result ≡ Err e = search rules in
    rw same (taker_before g.T.LineTaker g.met.T.LineTaker.refused_from c.step.new.taker c.args.desk.now c.loop-rest.desk c.step.new.desk e c.loop-rest.invariant.follows c.in_err-rest.ensures.own)

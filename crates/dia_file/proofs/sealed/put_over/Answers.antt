use Rattle.std.proofs.Common.{◌≡◌, ℕ, List, Err, length, refl, ap, length-append, rules, arith}
use Rattle.block_pool.specs.Follows.{follows_refl}
use Rattle.dia_file.specs.Frames.{frame_bytes}
use Rattle.dia_file.proofs.Spreading.{spread_none, spread_more}
use Rattle.dia_file.proofs.sealed.put_over.Goals as goal

pub loop-rest-init : goal.loop-rest-init
loop-rest-init g c =
    let e = c.put_behind-rest.ensures in
    let len = ap (λ (xs : List ℕ). length xs) e.parts in
    record {
      spread = spread_none _ _ _ _ e.parts;
      some = λ some. omega (arith, some, len, length-append (frame_bytes c.put_behind-rest.new.frame) c.put_behind-rest.result.now, length-append (frame_bytes c.args.frame.now) c.args.bytes.now);
      filled = e.filled;
      own = e.own c.args.hand.now.pool c.requires.own;
      permits = omega (arith, e.frames);
      made = (refl, refl);
      follows = follows_refl c.args.hand.now;
    }

pub returns-in_err-rest-clause-err : goal.returns-in_err-rest-clause-err
returns-in_err-rest-clause-err g c =
    let e = c.in_err-rest.field-0.0 in
    let same : c.from_residual.result ≡ Err e = search rules in
    rw same (c.loop-rest.rest.now, spread_more _ _ _ _ _ _ _ c.loop-rest.invariant.spread c.loop-rest.invariant.own c.loop-rest.invariant.filled c.in-Ok.ensures.sealed)

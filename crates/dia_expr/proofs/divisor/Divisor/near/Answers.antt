use Rattle.std.proofs.Common.{◌^◌, arith}
use Rattle.dia_expr.proofs.DivisorLemmas.{near_within, near_most}
use Rattle.dia_expr.proofs.divisor.Divisor.near.Goals as goal

pub returns-clause-within : goal.returns-clause-within
returns-clause-within c =
    let d = c.args.self.now in
    rw (c.from.ensures, c.from-2.ensures) (near_within c.args.n d.often d.by (2 ^ 64) (omega arith) d.within)

pub returns-clause-most : goal.returns-clause-most
returns-clause-most c =
    let d = c.args.self.now in
    rw (c.from.ensures, c.from-2.ensures) (near_most c.args.n d.often d.by (2 ^ 64) d.some c.ranges.n.fits d.most)

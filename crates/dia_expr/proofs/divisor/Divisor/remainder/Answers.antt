use Rattle.dia_expr.proofs.DivisorLemmas.{remainder_is, remainder_next}
use Rattle.dia_expr.proofs.divisor.Divisor.remainder.Goals as goal

pub returns-then-rest-self : goal.returns-then-rest-self
returns-then-rest-self c =
    remainder_is c.args.n c.args.self.now.by c.near.result c.near.ensures.within c.if-rest-self.true

pub returns-else-rest-self : goal.returns-else-rest-self
returns-else-rest-self c =
    remainder_next c.args.n c.args.self.now.by c.near.result c.near.ensures.within c.near.ensures.most c.if-rest-self.false

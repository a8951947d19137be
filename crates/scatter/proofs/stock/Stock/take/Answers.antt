use Rattle.std.proofs.Common.{◌≡◌, None, Some}
use Rattle.scatter.specs.Lines.{LineValue, lines_in}
use Rattle.scatter.specs.Stocks.{IsLine}
use Rattle.scatter.proofs.Rooted.{still}
use Rattle.scatter.proofs.stock.Stock.take.Goals as goal

pub invariant_of-self : goal.invariant_of-self
invariant_of-self g c =
    let P : LineValue → Type 0 = λ line. IsLine c.self.inside.workers line in
    record {
      some = c.self.invariant.some;
      lines = still P (lines_in c.self.inside.lines) (lines_in c.take_parts.new.lines) c.args.line None c.take_parts.ensures.lines
          (λ line is. let wrong : ⊥ = cc in absurd wrong) c.self.invariant.lines;
    }

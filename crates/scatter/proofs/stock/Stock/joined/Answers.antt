use Rattle.std.proofs.Common.{◌<◌, subst}
use Rattle.lop_chain.specs.Operands.{root_in}
use Rattle.lop_chain.specs.Ops.{ops_in}
use Rattle.scatter.specs.Stocks.{StockValue, lines_of, AreLines}
use Rattle.scatter.proofs.Rooted.{root_rows_are}
use Rattle.scatter.proofs.stock.Stock.joined.Goals as goal

pub returns : goal.returns
returns g c =
    let P : StockValue g.row.X.Denot → Type 0 = λ s. AreLines s.workers (lines_of s) in
    let Q : StockValue g.row.X.Denot → Type 0 = λ s. 0 < s.workers in
    root_rows_are (lines_of c.args.self.now) c.args.self.now.workers (subst P c.self.view_is c.self.invariant.lines) c.args.last (ops_in c.args.operand.now.chain.items)
    (subst Q c.self.view_is c.self.invariant.some) (root_in c.args.operand.now.root)

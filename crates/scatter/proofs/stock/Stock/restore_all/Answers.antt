use Rattle.std.proofs.Common.{◌≡◌, Some, sym, ap, subst, ◌∙◌}
use Rattle.scatter.specs.Lines.{LineValue, lines_in, with_parts, all_lent}
use Rattle.scatter.specs.Stocks.{StockValue, lines_of, IsLine}
use Rattle.scatter.proofs.Rooted.{still, only}
use Rattle.scatter.proofs.stock.Stock.restore_all.Goals as goal

pub invariant_of-self : goal.invariant_of-self
invariant_of-self g c =
    let lent = c.requires in
    let there : lines_in c.self.inside.lines c.args.line ≡ Some (all_lent lent.line) = ap (λ (s : StockValue g.row.X.Denot). lines_of s c.args.line) c.self.view_is ∙ lent.there in
    let P : LineValue → Type 0 = λ line. IsLine c.self.inside.workers line in
    let back = with_parts lent.line c.args.parts.items in
    record {
      some = c.self.invariant.some;
      lines = still P (lines_in c.self.inside.lines) (lines_in c.replace_parts.new.lines) c.args.line (Some back) (c.replace_parts.ensures.lines (all_lent lent.line) there)
          (only P back (subst (λ (s : StockValue g.row.X.Denot). IsLine s.workers back) (sym c.self.view_is) lent.is)) c.self.invariant.lines;
    }

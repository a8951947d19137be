use Rattle.std.proofs.Common.{◌≡◌, ℕ, Some, sym, ap, ◌∙◌}
use Rattle.std.specs.Prelude.{slice_set}
use Rattle.std.specs.List.{AllZip}
use Rattle.scatter.specs.Lines.{LineValue, lines_in, with_parts}
use Rattle.scatter.specs.Stocks.{StockValue, lines_of, IsLine, IsPartOf}
use Rattle.scatter.proofs.Rooted.{still, only, back_line, back_pools}
use Rattle.scatter.proofs.stock.Stock.restore.Goals as goal

pub invariant_of-self : goal.invariant_of-self
invariant_of-self g c =
    let lent = c.requires in
    let there : lines_in c.self.inside.lines c.args.line ≡ Some lent.line = ap (λ (s : StockValue g.row.X.Denot). lines_of s c.args.line) c.self.view_is ∙ lent.there in
    let P : LineValue → Type 0 = λ line. IsLine c.self.inside.workers line in
    let back = with_parts lent.line (slice_set lent.line.parts c.args.rank (Some c.args.file)) in
    record {
      some = c.self.invariant.some;
      lines = still P (lines_in c.self.inside.lines) (lines_in c.put_back.new.lines) c.args.line (Some back) (c.put_back.ensures lent.line there)
          (only P back (back_line c.self.inside.workers lent.line c.args.rank c.args.file lent.kinds_are (c.self.invariant.lines c.args.line lent.line there))) c.self.invariant.lines;
    }

pub returns-clause-pools : goal.returns-clause-pools
returns-clause-pools g c = λ pools pool at own all.
    let lent = c.requires in
    let there : lines_in c.self.inside.lines c.args.line ≡ Some lent.line = ap (λ (s : StockValue g.row.X.Denot). lines_of s c.args.line) c.self.view_is ∙ lent.there in
    let P : LineValue → Type 0 = λ line. AllZip IsPartOf pools line.parts in
    let before : (m : ℕ) (line : LineValue) → lines_in c.self.inside.lines m ≡ Some line → P line =
    λ m line is. all m line (ap (λ (s : StockValue g.row.X.Denot). lines_of s m) (sym c.self.view_is) ∙ is) in
    let back = with_parts lent.line (slice_set lent.line.parts c.args.rank (Some c.args.file)) in
    still P (lines_in c.self.inside.lines) (lines_in c.put_back.new.lines) c.args.line (Some back) (c.put_back.ensures lent.line there)
    (only P back (back_pools pools lent.line.parts c.args.rank pool c.args.file at own (before c.args.line lent.line there))) before

use Rattle.std.proofs.Common.{◌≡◌, Some, sym, ap, subst, arith}
use Rattle.std.specs.List.{AllZip}
use Rattle.scatter.specs.Lines.{LineValue, line_value, lines_in, Sets}
use Rattle.scatter.specs.Stocks.{StockValue, lines_of, IsLine, IsPartOf, AreLines}
use Rattle.scatter.proofs.Changes.{sets, same_lines}
use Rattle.scatter.proofs.Rooted.{still, only, put_value, put_line, put_pools}
use Rattle.scatter.proofs.stock.Stock.put.Goals as goal

pub new-kept-requires-clause-some : goal.new-kept-requires-clause-some
new-kept-requires-clause-some g c =
    let same = ap (λ (s : StockValue g.row.X.Denot). s.workers) c.self.view_is in
    omega (arith, c.self.invariant.some, same, c.requires.count)

pub invariant_of-self : goal.invariant_of-self
invariant_of-self g c =
    let files = c.args.parts.items in
    let kept = c.new-kept.result in
    let same = ap (λ (s : StockValue g.row.X.Denot). s.workers) c.self.view_is in
    let value : line_value kept ≡ put_value files = c.new-kept.ensures in
    let P : LineValue → Type 0 = λ line. IsLine c.self.inside.workers line in
    let is : P (put_value files) = put_line c.self.inside.workers files (omega (arith, same, c.requires.count)) c.requires.kinds in
    record {
      some = c.self.invariant.some;
      lines = still P (lines_in c.self.inside.lines) (lines_in c.insert.new.self) c.args.line (Some (line_value kept))
          (sets c.self.inside.lines c.insert.new.self c.args.line (Some kept) c.in-Ok.ensures.updates) (only P (line_value kept) (subst P (sym value) is)) c.self.invariant.lines;
    }

pub invariant_of-self-2 : goal.invariant_of-self-2
invariant_of-self-2 g c = record {
  some = c.self.invariant.some;
  lines = same_lines (AreLines c.self.inside.workers) c.self.inside.lines c.insert.new.self c.in-Err.ensures.err c.self.invariant.lines;
}

pub returns-in-Ok-clause-lines : goal.returns-in-Ok-clause-lines
returns-in-Ok-clause-lines g c =
    let files = c.args.parts.items in
    let kept = c.new-kept.result in
    let value : line_value kept ≡ put_value files = c.new-kept.ensures in
    let P : LineValue → Type 0 = λ line. Sets (lines_in c.self.inside.lines) c.args.line (Some line) (lines_in c.insert.new.self) in
    let Q : StockValue g.row.X.Denot → Type 0 = λ s. Sets (lines_of s) c.args.line (Some (put_value files)) (lines_in c.insert.new.self) in
    subst Q c.self.view_is (subst P value (sets c.self.inside.lines c.insert.new.self c.args.line (Some kept) c.in-Ok.ensures.updates))

pub returns-in-Ok-clause-pools : goal.returns-in-Ok-clause-pools
returns-in-Ok-clause-pools g c = λ pools all files.
    let P : LineValue → Type 0 = λ line. AllZip IsPartOf pools line.parts in
    still P (lines_of c.args.self.now) (lines_in c.insert.new.self) c.args.line (Some (put_value c.args.parts.items)) (returns-in-Ok-clause-lines g c)
    (only P (put_value c.args.parts.items) (put_pools pools c.args.parts.items files)) all

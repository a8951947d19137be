use Rattle.std.proofs.Common.{rules, ◌≡◌, ◌<◌, ◌-◌, ◌^◌, Option, Some, None, List, length, refl, sym, ap, subst, ◌∙◌, arith}
use Rattle.std.specs.Prelude.{IsSome, min}
use Rattle.std.specs.List.{flat_map, filter_map}
use Rattle.std.specs.Ordering.{nat_cmp}
use Rattle.std.specs.BTreeMap.{get}
use Rattle.std.proofs.lemmas.List.FromFn.{length-map-range_with_len}
use Rattle.row_defs.specs.Rows.{number_row}
use Rattle.dia_file.specs.Encoding.{AllFit}
use Rattle.dia_file.specs.Files.{FileValue}
use Rattle.lop_chain.specs.declared.operand.Root.{Root}
use Rattle.lop_chain.specs.Operands.{root_in}
use Rattle.scatter.specs.Lines.{LineValue, lines_in, HasRoot, IsWhole, root_rows}
use Rattle.scatter.specs.Stocks.{StockValue, lines_of}
use Rattle.scatter.proofs.Changes.{is_there, is_seen}
use Rattle.scatter.proofs.Counting.{numbers_fit}
use Rattle.scatter.proofs.stock.Stock.row_count.Goals as goal

pub unreachable-requires : goal.unreachable-requires
unreachable-requires g c =
    let n = c.in-Stored.number in
    let P : Root → Type 0 = λ r. HasRoot (lines_of c.args.self.now) (root_in r) in
    let has : IsWhole (lines_of c.args.self.now) n = subst P c.in-Stored.is c.requires in
    let there : lines_in c.self.inside.lines n ≡ Some has.line = ap (λ (s : StockValue g.row.X.Denot). lines_of s n) c.self.view_is ∙ has.there in
    let S : Option LineValue → Type 0 = λ o. IsSome o in
    let one : IsSome (Some has.line) = refl in
    let gone : get nat_cmp c.self.inside.lines n ≡ None = search rules in
    is_there c.self.inside.lines n (subst S (sym there) one) gone

pub returns-in-Some-clause-len : goal.returns-in-Some-clause-len
returns-in-Some-clause-len g c =
    let n = c.in-Stored.number in
    let P : Root → Type 0 = λ r. HasRoot (lines_of c.args.self.now) (root_in r) in
    let has : IsWhole (lines_of c.args.self.now) n = subst P c.in-Stored.is c.requires in
    let there : lines_in c.self.inside.lines n ≡ Some has.line = ap (λ (s : StockValue g.row.X.Denot). lines_of s n) c.self.view_is ∙ has.there in
    let here : get nat_cmp c.self.inside.lines n ≡ Some c.in-Some.line.now = search rules in
    let seen = is_seen c.self.inside.lines n c.in-Some.line.now has.line here there in
    let parts : c.as_slice.result.now ≡ has.line.parts = c.as_slice.ensures.value ∙ ap (λ (l : LineValue). l.parts) seen in
    let count = λ (ps : List (Option FileValue)). min (length (flat_map (λ (f : FileValue). f.rows) (filter_map (λ (part : Option FileValue). part) ps))) (2 ^ 64 - 1) in
    let Q : Root → Type 0 = λ r. c.rows_in_parts.result ≡ min (length (root_rows (lines_of c.args.self.now) (root_in r))) (2 ^ 64 - 1) in
    subst Q (sym c.in-Stored.is) (rw has.there (c.rows_in_parts.ensures.len ∙ ap count parts))

pub returns-in-Some-clause-fit : goal.returns-in-Some-clause-fit
returns-in-Some-clause-fit g c =
    let n = c.in-Stored.number in
    let P : Root → Type 0 = λ r. HasRoot (lines_of c.args.self.now) (root_in r) in
    let has : IsWhole (lines_of c.args.self.now) n = subst P c.in-Stored.is c.requires in
    let there : lines_in c.self.inside.lines n ≡ Some has.line = ap (λ (s : StockValue g.row.X.Denot). lines_of s n) c.self.view_is ∙ has.there in
    let here : get nat_cmp c.self.inside.lines n ≡ Some c.in-Some.line.now = search rules in
    let seen = is_seen c.self.inside.lines n c.in-Some.line.now has.line here there in
    let parts : c.as_slice.result.now ≡ has.line.parts = c.as_slice.ensures.value ∙ ap (λ (l : LineValue). l.parts) seen in
    let Fit : List (Option FileValue) → Type 0 = λ ps. AllFit (flat_map (λ (f : FileValue). f.rows) (filter_map (λ (part : Option FileValue). part) ps)) in
    let Q : Root → Type 0 = λ r. AllFit (root_rows (lines_of c.args.self.now) (root_in r)) in
    subst Q (sym c.in-Stored.is) (rw has.there (subst Fit parts c.rows_in_parts.ensures.fit))

pub returns-in-Count-clause-len : goal.returns-in-Count-clause-len
returns-in-Count-clause-len g c =
    let long = length-map-range_with_len number_row 0 (c.in-Count.rows - 0) in
    let Q : Root → Type 0 = λ r. c.in-Count.rows ≡ min (length (root_rows (lines_of c.args.self.now) (root_in r))) (2 ^ 64 - 1) in
    let fits : c.in-Count.rows < 2 ^ 64 = search rules in
    subst Q (sym c.in-Count.is) (omega (arith, long, fits))

pub returns-in-Count-clause-fit : goal.returns-in-Count-clause-fit
returns-in-Count-clause-fit g c =
    let Q : Root → Type 0 = λ r. AllFit (root_rows (lines_of c.args.self.now) (root_in r)) in
    let fits : c.in-Count.rows < 2 ^ 64 = search rules in
    subst Q (sym c.in-Count.is) (numbers_fit 0 (c.in-Count.rows - 0) (omega (arith, fits)))

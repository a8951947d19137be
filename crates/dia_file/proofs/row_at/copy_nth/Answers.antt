use Rattle.std.proofs.Common.{◌≡◌, ℕ, Some, sym, ap, ◌∙◌, slice_get, arith}
use Rattle.row_defs.specs.Rows.{Row}
use Rattle.dia_file.proofs.Copying.{passed_on, row_passed}
use Rattle.dia_file.proofs.row_at.copy_nth.Goals as goal

pub loop-row-preserved : goal.loop-row-preserved
loop-row-preserved g c =
    passed_on c.args.hand.now c.loop-row.hand c.next.new.hand c.args.reader.now c.loop-row.reader c.next.follows.lender-at-none c.loop-row._row c.next.result c.in-Ok-Some.field-0 c.in-Ok-Some._row
    c.loop-row.invariant c.next.follows.holds-at-none c.next.ensures.tally c.next.ensures.follows c.in-Ok-Some.is c.in-Ok-Some.field-0-is

pub returns-in-Ok-Some-next-clause-row : goal.returns-in-Ok-Some-next-clause-row
returns-in-Ok-Some-next-clause-row g c = λ tells.
    let same : c.loop-row._row ≡ c.args.n = omega arith in
    let got = row_passed c.args.hand.now c.loop-row.hand c.next-2.new.hand c.args.reader.now c.loop-row.reader c.next-2.follows.lender-at-none c.loop-row._row c.next-2.result c.in-Ok-Some-next.field-0 c.in-Ok-Some-next.row
    c.loop-row.invariant c.next-2.follows.holds-at-none c.in-Ok-Some-next.is c.in-Ok-Some-next.field-0-is tells in
    ap (λ (n : ℕ). slice_get c.args.reader.now.left n) (sym same) ∙ got ∙ ap (λ (r : Row). Some r) (sym c.copy.ensures)

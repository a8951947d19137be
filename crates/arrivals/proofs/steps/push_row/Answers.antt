use Rattle.std.proofs.Common.{◌≡◌, ◌<◌, [], sym, subst, arith}
use Rattle.std.specs.Prelude.{ℕ}
use Rattle.row_defs.specs.Rows.{kinds_of}
use Rattle.dia_item.specs.Lent.{row_in_ref}
use Rattle.dia_item.proofs.RowLemmas.{kinds_are}
use Rattle.dia_file.specs.Encoding.{spelled}
use Rattle.mix_stream.specs.Reading.{IsNext, bytes_of, pins}
use Rattle.arrivals.proofs.Answered.{when_some}
use Rattle.arrivals.proofs.steps.push_row.Goals as goal

pub take_from-requires-clause-kinds : goal.take_from-requires-clause-kinds
take_from-requires-clause-kinds g c =
    let old = c.args.reader.now in
    let new = c.next.follows.lender-at-none in
    let row = row_in_ref c.in-Ok-Some.row in
    let first = when_some c.next.result c.in-Ok-Some.field-0 c.in-Ok-Some.row
    (λ row. IsNext c.args.hand.now.pool new.from (row_in_ref row) old new × ((j : ℕ) → j < new.from → bytes_of j old ≡ [])) _
    c.in-Ok-Some.is c.in-Ok-Some.field-0-is c.next.follows.holds-at-none.0 in
    let kinds : kinds_of row ≡ old.kinds = kinds_are old.kinds (spelled row) row first.0.is_row in
    subst (g.S.RowSink.accepts c.args.sink.now) (sym kinds) c.requires.can.accepts

pub returns-in-Ok-clause-pinned : goal.returns-in-Ok-clause-pinned
returns-in-Ok-clause-pinned g c =
    let drains = c.next.follows.holds-at-none.2 in
    let before : c.permits-before.result ≡ c.args.hand.now.permits = c.permits-before.ensures in
    let now : c.permits.result ≡ c.next.new.hand.permits = c.permits.ensures in
    c.still_pinned.ensures (pins c.args.reader.now) (pins c.next.follows.lender-at-none) c.requires.pinned drains.one (let same = drains.permits in omega arith)

use Rattle.std.proofs.Common.{◌≡◌, ◌++◌, ◌∷◌, [], ℕ, List, drop, Err, rules, sym, subst}
use Rattle.row_defs.specs.Printed.{cell_text}
use Rattle.dia_edge.specs.declared.refusals.Failed.{Failed}
use Rattle.dia_edge.specs.Sinks.{Puts}
use Rattle.dia_item.specs.Fields.{cell_of}
use Rattle.dia_item.specs.Lent.{row_in_ref}
use Rattle.text_out.specs.Columns.{nexts_text}
use Rattle.text_out.proofs.PutLemmas.{puts_more, puts_less}
use Rattle.text_out.proofs.ColumnLemmas.{row_text-parts}
use Rattle.text_out.proofs.row_text.push_row.Goals as goal

pub returns-in_err-push_field : goal.returns-in_err-push_field
returns-in_err-push_field g c =
    let taken = g.S.Sink.taken in
    let faults = g.S.Sink.faults in
    let row = row_in_ref c.args.row.now in
    let e = c.in_err-push_field.field-0.0 in
    let same : c.from_residual.result ≡ Err e = search rules in
    let Put : List ℕ → Type 0 = λ xs. Puts {T = Unit {0}} taken faults c.args.out.now c.push_field.new.out (c.args.buffer.now ++ xs) c.push_field.new.buffer (Err e) in
    rw same (record {
      puts = subst Put (sym (row_text-parts row (cell_of c.field.result) c.field.ensures.value))
          (puts_less taken faults c.args.out.now c.push_field.new.out c.args.buffer.now c.push_field.new.buffer c.push_field.new.buffer (cell_text (cell_of c.field.result))
          (nexts_text (drop 1 row) ++ 10 ∷ []) _ e c.in_err-push_field.ensures.puts);
    })

pub returns-in_err-push_nexts : goal.returns-in_err-push_nexts
returns-in_err-push_nexts g c =
    let taken = g.S.Sink.taken in
    let faults = g.S.Sink.faults in
    let row = row_in_ref c.args.row.now in
    let e = c.in_err-push_nexts.field-0.0 in
    let same : c.from_residual-in_err-push_nexts.result ≡ Err e = search rules in
    let Put : List ℕ → Type 0 = λ xs. Puts {T = Unit {0}} taken faults c.args.out.now c.push_nexts.new.out (c.args.buffer.now ++ xs) c.push_nexts.new.buffer (Err e) in
    rw same (record {
      puts = subst Put (sym (row_text-parts row (cell_of c.field.result) c.field.ensures.value))
          (puts_more taken faults c.args.out.now c.push_field.new.out c.push_nexts.new.out c.args.buffer.now c.push_field.new.buffer c.push_nexts.new.buffer (cell_text (cell_of c.field.result))
          (nexts_text (drop 1 row) ++ 10 ∷ []) _ _ c.in_ok-push_field.ensures.puts
          (puts_less {D = Failed} taken faults c.push_field.new.out c.push_nexts.new.out c.push_field.new.buffer c.push_nexts.new.buffer c.push_nexts.new.buffer (nexts_text (drop 1 row)) (10 ∷ []) e e
          c.in_err-push_nexts.ensures.puts));
    })

pub returns : goal.returns
returns g c =
    let taken = g.S.Sink.taken in
    let faults = g.S.Sink.faults in
    let row = row_in_ref c.args.row.now in
    let Put : List ℕ → Type 0 = λ xs. Puts taken faults c.args.out.now c.push.new.out (c.args.buffer.now ++ xs) c.push.new.self c.push.result in
    record {
      puts = subst Put (sym (row_text-parts row (cell_of c.field.result) c.field.ensures.value))
          (puts_more taken faults c.args.out.now c.push_field.new.out c.push.new.out c.args.buffer.now c.push_field.new.buffer c.push.new.self (cell_text (cell_of c.field.result))
          (nexts_text (drop 1 row) ++ 10 ∷ []) _ _ c.in_ok-push_field.ensures.puts
          (puts_more taken faults c.push_field.new.out c.push_nexts.new.out c.push.new.out c.push_field.new.buffer c.push_nexts.new.buffer c.push.new.self (nexts_text (drop 1 row)) (10 ∷ []) _ _
          c.in_ok-push_nexts.ensures.puts c.push.ensures.puts));
    }

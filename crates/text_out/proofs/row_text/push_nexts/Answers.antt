use Rattle.std.proofs.Common.{◌≡◌, ◌+◌, ◌-◌, ◌++◌, ℕ, List, take, drop, Err, Ok, rules, sym, subst}
use Rattle.dia_edge.specs.declared.refusals.Failed.{Failed}
use Rattle.dia_edge.specs.Sinks.{Puts}
use Rattle.dia_item.specs.Fields.{cell_of}
use Rattle.dia_item.specs.Lent.{row_in_ref}
use Rattle.text_out.specs.Columns.{next_text, nexts_text}
use Rattle.text_out.proofs.PutLemmas.{puts_more, puts_less}
use Rattle.text_out.proofs.ColumnLemmas.{nexts_more, nexts_all}
use Rattle.text_out.proofs.row_text.push_nexts.Goals as goal

pub returns-in_err-push_next : goal.returns-in_err-push_next
returns-in_err-push_next g c =
    let taken = g.S.Sink.taken in
    let faults = g.S.Sink.faults in
    let row = row_in_ref c.args.row.now in
    let i = c.loop-i.i in
    let next = next_text (cell_of c.field.result) in
    let so_far = nexts_text (take (i - 1) (drop 1 row)) in
    let e = c.in_err-push_next.field-0.0 in
    let same : c.from_residual.result ≡ Err e = search rules in
    let Put : List ℕ → Type 0 = λ xs. Puts {T = Unit {0}} taken faults c.args.out.now c.push_next.new.out (c.args.buffer.now ++ xs) c.push_next.new.buffer (Err e) in
    rw same (record {
      puts = subst Put (nexts_all row i (cell_of c.field.result) c.loop-i.auto.i c.field.ensures.value)
          (puts_less taken faults c.args.out.now c.push_next.new.out c.args.buffer.now c.push_next.new.buffer c.push_next.new.buffer (so_far ++ next) (nexts_text (drop (i + 1 - 1) (drop 1 row))) e e
          (puts_more taken faults c.args.out.now c.loop-i.out c.push_next.new.out c.args.buffer.now c.loop-i.buffer c.push_next.new.buffer so_far next _ _ c.loop-i.invariant.puts
          c.in_err-push_next.ensures.puts));
    })

pub loop-i-preserved : goal.loop-i-preserved
loop-i-preserved g c =
    let taken = g.S.Sink.taken in
    let faults = g.S.Sink.faults in
    let row = row_in_ref c.args.row.now in
    let i = c.loop-i.i in
    let next = next_text (cell_of c.field.result) in
    let so_far = nexts_text (take (i - 1) (drop 1 row)) in
    let Put : List ℕ → Type 0 = λ xs. Puts {T = Unit {0}} {E = Failed} taken faults c.args.out.now c.push_next.new.out (c.args.buffer.now ++ xs) c.push_next.new.buffer (Ok tt) in
    record {
      puts = subst Put (sym (nexts_more row i (cell_of c.field.result) c.loop-i.auto.i c.field.ensures.value))
          (puts_more taken faults c.args.out.now c.loop-i.out c.push_next.new.out c.args.buffer.now c.loop-i.buffer c.push_next.new.buffer so_far next _ _ c.loop-i.invariant.puts
          c.in_ok-push_next.ensures.puts);
    }

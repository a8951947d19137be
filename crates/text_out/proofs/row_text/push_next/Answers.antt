use Rattle.std.proofs.Common.{◌≡◌, ◌∷◌, [], Err, rules}
use Rattle.row_defs.specs.Printed.{cell_text}
use Rattle.dia_item.specs.Fields.{cell_of}
use Rattle.text_out.proofs.PutLemmas.{puts_less}
use Rattle.text_out.proofs.row_text.push_next.Goals as goal

pub returns-in_err-push : goal.returns-in_err-push
returns-in_err-push g c =
    let e = c.in_err-push.field-0.0 in
    let same : c.from_residual.result ≡ Err e = search rules in
    rw same (record {
      puts = puts_less g.S.Sink.taken g.S.Sink.faults c.args.out.now c.push.new.out c.args.buffer.now c.push.new.self c.push.new.self (9 ∷ []) (cell_text (cell_of c.args.field)) _ e
          c.in_err-push.ensures.puts;
    })

use Rattle.std.proofs.Common.{◌≡◌, ◌++◌, [], List, ℕ, Result, Ok, subst, sym}
use Rattle.dia_edge.specs.Sinks.{Puts}
use Rattle.dia_edge.proofs.SinkLemmas.{puts_then}
use Rattle.text_out.proofs.out_buffer.OutBuffer.push_past.Goals as goal

pub returns-then-bytes-ge-MOST_WAITING-clause-puts : goal.returns-then-bytes-ge-MOST_WAITING-clause-puts
returns-then-bytes-ge-MOST_WAITING-clause-puts g c =
    let taken = g.S.Sink.taken in
    let faults = g.S.Sink.faults in
    let mine = c.args.self.now in
    let bytes = c.args.bytes.now in
    let waits = c.flush.new.self in
    let Waits : List ℕ → Type 0 = λ xs. Puts taken faults c.args.out.now c.put.new.self (mine ++ bytes) xs c.put.result in
    let Put : List ℕ → Type 0 = λ xs. Puts taken faults c.flush.new.out c.put.new.self (xs ++ bytes) [] c.put.result in
    subst Waits (sym c.in_ok-flush.ensures.empty)
    (puts_then taken faults c.args.out.now c.flush.new.out c.put.new.self mine waits bytes [] _ c.put.result c.in_ok-flush.ensures.puts
    (subst Put (sym c.in_ok-flush.ensures.empty) c.put.ensures.puts))

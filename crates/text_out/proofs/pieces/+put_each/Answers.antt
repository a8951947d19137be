use Rattle.std.proofs.Common.{◌≡◌, [], List, ℕ, Result, Err, rules, subst, sym}
use Rattle.std.specs.Borrow.{Bor}
use Rattle.std.specs.List.{flat_map}
use Rattle.dia_edge.specs.declared.refusals.Failed.{Failed}
use Rattle.dia_edge.specs.Sinks.{Puts}
use Rattle.dia_edge.proofs.SinkLemmas.{puts_then, puts_failed}
use Rattle.text_out.proofs.pieces.+put_each.Goals as goal

pub returns-in_err-put-in-Some : goal.returns-in_err-put-in-Some
returns-in_err-put-in-Some g t c =
    let taken = g.S.Sink.taken in
    let faults = g.S.Sink.faults in
    let e = c.in_err-put-in-Some.field-0.0 in
    let same : c.from_residual.result ≡ Err e = search rules in
    let Is : List (Bor (List ℕ)) → Type 0 = λ ps. Puts taken faults c.args.out.now c.put.new.self (flat_map (λ (p : Bor (List ℕ)). p.now) ps) [] (Err e) in
    rw same (record {
      puts = subst Is (sym c.in-Some.ensures.cases.0)
          (puts_failed taken faults c.args.out.now c.put.new.self c.in-Some.piece.now.now [] (flat_map (λ (p : Bor (List ℕ)). p.now) c.in-Some.rest.now) [] _ e c.in_err-put-in-Some.ensures.puts);
    })

pub returns-in_ok-put-in-Some : goal.returns-in_ok-put-in-Some
returns-in_ok-put-in-Some g t c =
    let taken = g.S.Sink.taken in
    let faults = g.S.Sink.faults in
    let Is : List (Bor (List ℕ)) → Type 0 = λ ps. Puts taken faults c.args.out.now c.put_each.new.out (flat_map (λ (p : Bor (List ℕ)). p.now) ps) [] c.put_each.result in
    record {
      puts = subst Is (sym c.in-Some.ensures.cases.0)
          (puts_then taken faults c.args.out.now c.put.new.self c.put_each.new.out c.in-Some.piece.now.now [] (flat_map (λ (p : Bor (List ℕ)). p.now) c.in-Some.rest.now) [] _ c.put_each.result
          c.in_ok-put-in-Some.ensures.puts c.put_each.ensures.puts);
    }

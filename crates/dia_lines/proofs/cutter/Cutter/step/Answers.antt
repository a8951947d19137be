use Rattle.std.proofs.Common.{◌≡◌, rules, Err}
use Rattle.dia_lines.proofs.TakeLemmas.{consumes_all, cut_whole}
use Rattle.dia_lines.proofs.cutter.Cutter.step.Goals as goal

pub returns-in_err-go_on-in-None-clause-refused : goal.returns-in_err-go_on-in-None-clause-refused
returns-in_err-go_on-in-None-clause-refused g c =
    let e = c.in_err-go_on-in-None.field-0.0 in
    let same : c.from_residual.result ≡ Err e = search rules in
    rw same (λ began seen taken.
    cut_whole g.T.LineTaker began c.args.taker.now c.args.desk.now c.args.desk.now e seen c.args.bytes.now
    (c.in_err-go_on-in-None.ensures.refused began c.args.taker.now c.args.desk.now c.args.desk.now seen taken))

pub returns-in_ok-go_on-in-None-clause-ok : goal.returns-in_ok-go_on-in-None-clause-ok
returns-in_ok-go_on-in-None-clause-ok g c =
    consumes_all g.T.LineTaker c.args.taker.now c.args.taker.now c.args.self.now c.go_on.new.self c.args.bytes.now
    (λ began seen taken. c.in_ok-go_on-in-None.ensures.ok began c.args.taker.now seen taken)

pub returns-in_err-go_on-in-None-clause-own : goal.returns-in_err-go_on-in-None-clause-own
returns-in_err-go_on-in-None-clause-own g c =
    let e = c.in_err-go_on-in-None.field-0.0 in
    let same : c.from_residual.result ≡ Err e = search rules in
    rw same (c.in_err-go_on-in-None.ensures.own c.args.taker.now c.args.desk.now c.args.desk.now)

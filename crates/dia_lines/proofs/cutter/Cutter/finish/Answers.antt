use Rattle.std.proofs.Common.{◌≡◌, ◌≢◌, arith, sym, ◌∙◌, vec_len}
use Rattle.std.proofs.lemmas.Bool.{eqb-true, eqb-false}
use Rattle.dia_lines.proofs.TakeLemmas.{read_all, read_last_of, read_refused_of}
use Rattle.dia_lines.proofs.cutter.Cutter.finish.Goals as goal

pub returns-then-is_empty-clause-ok : goal.returns-then-is_empty-clause-ok
returns-then-is_empty-clause-ok g c = λ began seen taken.
    let none : vec_len c.args.self.now.run ≡ 0 = eqb-true _ _ (sym c.is_empty.ensures ∙ c.if-is_empty.true) in
    read_all g.T.LineTaker began c.args.taker.now c.args.self.now.ended c.args.self.now.run.items seen taken (omega arith)

pub returns-clause-ok : goal.returns-clause-ok
returns-clause-ok g c =
    let some : vec_len c.args.self.now.run ≢ 0 = eqb-false _ _ (sym c.is_empty.ensures ∙ c.if-is_empty.false) in
    read_last_of g.T.LineTaker g.met.T.LineTaker.took_more c.args.taker.now c.take.new.self c.args.self.now c.take.result (omega arith) (omega arith)
    (rw c.as_slice.ensures.value at c.take.ensures.took)

pub returns-clause-refused : goal.returns-clause-refused
returns-clause-refused g c =
    let some : vec_len c.args.self.now.run ≢ 0 = eqb-false _ _ (sym c.is_empty.ensures ∙ c.if-is_empty.false) in
    read_refused_of g.T.LineTaker c.args.taker.now c.take.new.self c.args.desk.now c.take.new.desk c.args.self.now c.take.result (omega arith)
    (rw c.as_slice.ensures.value at c.take.ensures.refused)

use Rattle.std.proofs.Common.{arith, refl}
use Rattle.dia_lines.proofs.TakeLemmas.{taken_line, taken_refused, taken_long_line}
use Rattle.dia_lines.proofs.cutter.Cutter.end_line.Goals as goal

pub returns-then-bytes-len-clause-refused : goal.returns-then-bytes-len-clause-refused
returns-then-bytes-len-clause-refused g c = λ began seen taken.
    taken_long_line g.T.LineTaker began c.args.taker.now c.args.self.now.ended c.args.self.now.run.items seen c.args.bytes.now taken c.requires.unbroken (omega arith)

pub returns-in-Ok-clause-ok : goal.returns-in-Ok-clause-ok
returns-in-Ok-clause-ok g c = λ began seen taken.
    taken_line g.T.LineTaker g.met.T.LineTaker.took_more began c.args.taker.now c.take.new.self c.args.self.now.ended _ c.args.self.now.run.items _ seen c.args.bytes.now taken
    c.requires.unbroken (omega arith) (rw c.as_slice.ensures.value at c.in-Ok.ensures.took) refl c.clear.ensures.items

pub returns-in-Err-clause-refused : goal.returns-in-Err-clause-refused
returns-in-Err-clause-refused g c = λ began seen taken.
    taken_refused g.T.LineTaker began c.args.taker.now c.take.new.self c.args.desk.now c.take.new.desk c.args.self.now.ended c.args.self.now.run.items seen c.args.bytes.now
    c.in-Err.refusal taken c.requires.unbroken (rw c.as_slice.ensures.value at c.in-Err.ensures.refused)

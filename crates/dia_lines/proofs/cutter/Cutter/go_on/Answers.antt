use Rattle.std.proofs.Common.{arith}
use Rattle.dia_lines.proofs.TakeLemmas.{taken_long}
use Rattle.dia_lines.proofs.cutter.Cutter.go_on.Goals as goal

pub returns-then-bytes-len-clause-refused : goal.returns-then-bytes-len-clause-refused
returns-then-bytes-len-clause-refused g c = λ began t a b seen taken.
    taken_long g.T.LineTaker began t c.args.self.now.ended c.args.self.now.run.items seen c.args.bytes.now taken c.requires.unbroken (omega arith)

use Rattle.std.proofs.Common.{take}
use Rattle.dia_expr.specs.Runs.{AreNoBlanks}
use Rattle.dia_expr.proofs.texts.run_len.Given as goal

abbrev pub invariant-loop-n : goal.invariant-loop-n
invariant-loop-n l = AreNoBlanks (take l.n l.text)

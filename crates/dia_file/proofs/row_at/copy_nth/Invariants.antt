use Rattle.dia_file.proofs.Copying.{PassedSoFar}
use Rattle.dia_file.proofs.row_at.copy_nth.Given as goal

abbrev pub invariant-loop-row : goal.invariant-loop-row
invariant-loop-row g l = PassedSoFar l.fn.hand l.fn.reader l.hand l.reader l._row

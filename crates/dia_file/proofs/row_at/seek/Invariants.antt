use Rattle.std.proofs.Common.{◌-◌, length}
use Rattle.dia_file.proofs.Splitting.{SoughtSoFar}
use Rattle.dia_file.proofs.row_at.seek.Given as goal

abbrev pub invariant-loop-sealed : goal.invariant-loop-sealed
invariant-loop-sealed l = SoughtSoFar l.fn.sealed.items l.i l.start l.before l.at

abbrev pub decreases-loop-sealed : goal.decreases-loop-sealed
decreases-loop-sealed l = length l.fn.sealed.items - l.at

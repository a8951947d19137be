use Rattle.dia_item.specs.KindList.{kind_list}
use Rattle.dia_file.proofs.Gathering.{GatheredSoFar}
use Rattle.dia_file.proofs.moves.gather_all.Given as goal

abbrev pub invariant-loop : goal.invariant-loop
invariant-loop g l = GatheredSoFar (kind_list l.kinds) l.fn.hand l.fn.place l.hand l.place

abbrev pub decreases-loop : goal.decreases-loop
decreases-loop g l = l.place.ahead

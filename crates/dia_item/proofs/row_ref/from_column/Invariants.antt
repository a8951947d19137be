use Rattle.dia_item.proofs.Walking.{IsFrom}
use Rattle.dia_item.proofs.row_ref.from_column.Given as goal

abbrev pub invariant-loop-kind : goal.invariant-loop-kind
invariant-loop-kind l = IsFrom l.kinds l.bytes l.kind-index l.rest

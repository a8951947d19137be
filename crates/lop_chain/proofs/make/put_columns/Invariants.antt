use Rattle.std.proofs.Common.{◌≡◌, take, slice_set}
use Rattle.dia_item.specs.Fields.{cell_of}
use Rattle.dia_item.specs.Lent.{row_in_ref}
use Rattle.lop_chain.proofs.make.put_columns.Given as goal

abbrev pub invariant-loop-i : goal.invariant-loop-i
invariant-loop-i l = l.into ≡ take l.i (slice_set (row_in_ref l.row) l.column (cell_of l.field))

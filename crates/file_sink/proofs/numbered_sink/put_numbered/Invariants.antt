use Rattle.std.proofs.Common.{◌≡◌, ◌∷◌, take}
use Rattle.row_defs.specs.Rows.{int}
use Rattle.dia_item.specs.Lent.{row_in_ref}
use Rattle.file_sink.proofs.numbered_sink.put_numbered.Given as goal

abbrev pub invariant-loop-i : goal.invariant-loop-i
invariant-loop-i l = l.into ≡ int l.number ∷ take l.i (row_in_ref l.row)

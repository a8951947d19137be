use Rattle.std.proofs.Common.{◌≡◌, ◌∷◌, take}
use Rattle.row_defs.specs.declared.kind.Kind.TheVariants.{Int}
use Rattle.dia_item.specs.KindList.{kind_list}
use Rattle.file_sink.proofs.numbered_sink.behind_number.Given as goal

abbrev pub invariant-loop-kind : goal.invariant-loop-kind
invariant-loop-kind l = kind_list l.all ≡ Int ∷ take l.kind-index l.kind-items

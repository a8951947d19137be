-- The kinds that a `Kinds` holds.
use Rattle.std.specs.Prelude.{List, [], take, Option, Some, None}
use Rattle.row_defs.specs.declared.kind.Kind.{Kind}
use Rattle.dia_item.specs.declared.kinds.Kinds.{Kinds}

abbrev pub kind_list : Kinds → List Kind
kind_list k = take k.count k.all

-- a buffer has no kinds before its first column
abbrev pub kinds_in : Option Kinds → List Kind
kinds_in None = []
kinds_in (Some kinds) = kind_list kinds

-- Rows of kinds.
use Rattle.std.specs.Prelude.{◌≡◌, List}
use Rattle.row_defs.specs.declared.kind.Kind.{Kind}
use Rattle.row_defs.specs.Rows.{Row, kinds_of}

abbrev pub Kinds : Type 0
Kinds = List Kind

-- the row has these kinds
abbrev pub IsRowOf : Kinds → Row → Type 0
IsRowOf kinds row = kinds_of row ≡ kinds

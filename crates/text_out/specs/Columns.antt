-- The text of a row, column by column.
use Rattle.std.specs.Prelude.{ℕ, List, ◌∷◌}
use Rattle.std.specs.List.{flat_map}
use Rattle.row_defs.specs.Rows.{Cell, Row}
use Rattle.row_defs.specs.Printed.{cell_text}

-- a column behind another one
abbrev pub next_text : Cell → List ℕ
next_text cell = 9 ∷ cell_text cell

abbrev pub nexts_text : Row → List ℕ
nexts_text cells = flat_map next_text cells

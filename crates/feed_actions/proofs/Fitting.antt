-- Rows that fit have no longer texts than a text may be.
use Rattle.std.proofs.Common.{List, [], ◌∷◌}
use Rattle.std.specs.List.{AllByRecursion}
use Rattle.row_defs.specs.Limits.{longest_text}
use Rattle.row_defs.specs.Rows.{int, text, Row, Fits}
use Rattle.dia_file.specs.Encoding.{AllFit}
use Rattle.row_growth.specs.Growth.{AreWithin}

cells_within : (row : Row) → AllByRecursion Fits row → AreWithin longest_text row
cells_within [] h = tt
cells_within (int n ∷ row) h = (tt, cells_within row h.1)
cells_within (text t ∷ row) h = (h.0, cells_within row h.1)

pub rows_within : (rows : List Row) → AllFit rows → AllByRecursion (AreWithin longest_text) rows
rows_within [] h = tt
rows_within (row ∷ rows) h = (cells_within row h.0, rows_within rows h.1)

-- What a borrowed field holds.
use Rattle.row_defs.specs.Rows.{Cell, int, text}
use Rattle.dia_item.specs.declared.field.Field.{Field}
use Rattle.dia_item.specs.declared.field.Field.TheVariants.{Int, Text}

abbrev pub cell_of : Field → Cell
cell_of (Int n) = int n
cell_of (Text t) = text t.now

-- A buffer with room for every row.
use Rattle.std.specs.Prelude.{◌*◌, ◌≤◌, length, vec_capacity}
use Rattle.row_defs.specs.Limits.{most_columns}
use Rattle.dia_item.specs.declared.row_buf.RowBuf.TheInside.{Inside}
use Rattle.row_defs.specs.Rows.{Row, IsRow}
use Rattle.dia_item.specs.Reading.{row_of}
use Rattle.dia_item.specs.Sizes.{longest_field, longest_row}
use Rattle.dia_item.specs.KindList.{kinds_in}

abbrev pub row_in : Inside → Row
row_in b = row_of (kinds_in b.kinds) b.bytes.items

pub record HasRoom (b : Inside) : Type 0 where
  pub is : IsRow (kinds_in b.kinds) b.bytes.items (row_in b)
  pub columns : length (kinds_in b.kinds) ≤ most_columns
  pub len : length b.bytes.items ≤ longest_field * length (kinds_in b.kinds)
  pub room : longest_row ≤ vec_capacity b.bytes

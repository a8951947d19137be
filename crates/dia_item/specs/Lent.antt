-- The row that is borrowed.
use Rattle.dia_item.specs.declared.row_ref.RowRef.{RowRef}
use Rattle.dia_item.specs.KindList.{kind_list}
use Rattle.row_defs.specs.Rows.{Row}
use Rattle.dia_item.specs.Reading.{row_of}

abbrev pub row_in_ref : RowRef → Row
row_in_ref r = row_of (kind_list r.kinds) r.bytes.now

use Rattle.row_defs.specs.Rows.{kinds_of}
use Rattle.dia_item.specs.Lent.{row_in_ref}
use Rattle.dia_expr.proofs.KindLemmas.{numeric_int}
use Rattle.lop_chain.specs.Columns.{number_in}
use Rattle.lop_chain.proofs.number_column.NumberColumn.value.Goals as goal

pub value-requires : goal.value-requires
value-requires c =
    numeric_int (kinds_of (row_in_ref c.args.row.now)) (number_in c.args.self.now) c.args.self.now.numeric c.requires

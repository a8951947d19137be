use Rattle.std.proofs.Common.{List, subst}
use Rattle.row_defs.specs.declared.kind.Kind.{Kind}
use Rattle.row_defs.specs.Rows.{IsRow}
use Rattle.dia_item.specs.Lent.{row_in_ref}
use Rattle.dia_file.proofs.writer.FileWriter.push.Goals as goal

pub push_parts-requires-clause-row : goal.push_parts-requires-clause-row
push_parts-requires-clause-row g c =
    let P : List Kind → Type 0 = λ ks. IsRow ks c.bytes-bytes.result.now (row_in_ref c.args.row) in
    (row_in_ref c.args.row, subst P c.requires.kinds c.bytes-bytes.ensures.row)

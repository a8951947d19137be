use Rattle.std.proofs.Common.{◌+◌, ◌++◌, length, refl}
use Rattle.row_defs.specs.Rows.{bytes_of_u32}
use Rattle.row_defs.specs.Pieces.{line_row}
use Rattle.dia_file.proofs.Lines.{line_is_row}
use Rattle.dia_file.proofs.writer.FileWriter.push_text.Goals as goal

pub push_parts-requires-clause-row : goal.push_parts-requires-clause-row
unfolding bytes_of_u32
push_parts-requires-clause-row g c =
    let prefix = c.args.prefix.now in
    let rest = c.args.rest.now in
    (line_row (prefix ++ rest), line_is_row c.args.self.now.kinds c.to_le_bytes-head.result prefix rest (length prefix + length rest) c.requires.kinds c.requires.text refl c.to_le_bytes-head.ensures)

use Rattle.std.proofs.Common.{sym, ap, ◌∙◌, length, List}
use Rattle.row_defs.specs.Rows.{Row}
use Rattle.dia_file.specs.Encoding.{encoded}
use Rattle.dia_file.specs.Files.{FileValue}
use Rattle.dia_file.proofs.FileLemmas.{stored_rows}
use Rattle.dia_file.proofs.file.File.bytes.Goals as goal

pub returns : goal.returns
returns c = c.self.invariant.bytes ∙ ap (λ (rs : List Row). length (encoded rs)) (sym (stored_rows _ _ _ _ c.self.invariant)) ∙ ap (λ (f : FileValue). length (encoded f.rows)) c.self.view_is

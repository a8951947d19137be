use Rattle.std.proofs.Common.{sym, ap, subst, ◌∙◌, length, List}
use Rattle.row_defs.specs.Rows.{Row}
use Rattle.dia_file.specs.Encoding.{AllFit}
use Rattle.dia_file.specs.Files.{FileValue}
use Rattle.dia_file.proofs.FileLemmas.{stored_rows, stored_fit}
use Rattle.dia_file.proofs.file.File.rows.Goals as goal

pub returns-clause-len : goal.returns-clause-len
returns-clause-len c = c.self.invariant.rows ∙ ap (λ (rs : List Row). length rs) (sym (stored_rows _ _ _ _ c.self.invariant)) ∙ ap (λ (f : FileValue). length f.rows) c.self.view_is

pub returns-clause-fit : goal.returns-clause-fit
returns-clause-fit c =
    let Fit : FileValue → Type 0 = λ f. AllFit f.rows in
    subst Fit c.self.view_is (stored_fit _ _ _ _ c.self.invariant)

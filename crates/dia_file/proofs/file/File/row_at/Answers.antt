use Rattle.std.proofs.Common.{◌≡◌, ◌+◌, ◌-◌, List, drop, slice_get, sym, ap, ◌∙◌, arith}
use Rattle.row_defs.specs.Rows.{Row}
use Rattle.dia_file.specs.Files.{FileValue}
use Rattle.dia_file.proofs.Copying.{get_drop, row_of_copy, refuses_within}
use Rattle.dia_file.proofs.file.File.row_at.Goals as goal

pub returns-clause-row : goal.returns-clause-row
returns-clause-row g c = row_of_copy c.copy_nth-copied.result c.copy_nth-copied.ensures.row (λ h tells.
    let before = c.keep_from-reader.ensures.before in
    let sum : c.keep_from-reader.result.1 + (c.args.i - c.keep_from-reader.result.1) ≡ c.args.i = omega (arith, before) in
    sym (get_drop c.args.self.now.rows c.keep_from-reader.result.1 (c.args.i - c.keep_from-reader.result.1) c.args.i sum)
    ∙ ap (λ (rs : List Row). slice_get rs (c.args.i - c.keep_from-reader.result.1))
    (ap (λ (f : FileValue). drop c.keep_from-reader.result.1 f.rows) (sym c.replace-file.ensures.value) ∙ sym c.keep_from-reader.ensures.left)
    ∙ h tells)

pub returns-clause-refused : goal.returns-clause-refused
returns-clause-refused g c = refuses_within c.copy_nth-copied.result c.args.hand.now c.copy_nth-copied.new.hand c.end.new.hand c.copy_nth-copied.ensures.refused c.end.ensures.follows

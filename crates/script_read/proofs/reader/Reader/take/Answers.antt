use Rattle.std.proofs.Common.{sym, ap, ◌∙◌}
use Rattle.script_read.specs.Accepting.{line_read_in}
use Rattle.script_read.proofs.LineLemmas.{reading-stated}
use Rattle.script_read.proofs.reader.Reader.take.Goals as goal

pub returns-in_ok-add_line-in-Line-clause-ok : goal.returns-in_ok-add_line-in-Line-clause-ok
returns-in_ok-add_line-in-Line-clause-ok c = λ more.
    reading-stated _ _ _ _ more _ _ _ _ (sym c.in_ok-read_line.ensures ∙ ap line_read_in c.in-Line.is) c.in_ok-add_line-in-Line.ensures.known c.in_ok-add_line-in-Line.ensures.statements

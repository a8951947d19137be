use Rattle.std.proofs.Common.{sym, ap, Ok, ◌∙◌}
use Rattle.std.proofs.lemmas.Bool.{eqb-true}
use Rattle.script_read.proofs.SoundLemmas.{lines_sound}
use Rattle.script_read.proofs.LineLemmas.{reading-done}
use Rattle.script_read.proofs.reader.read_lines.Goals as goal

pub returns-clause-ok : goal.returns-clause-ok
returns-clause-ok c =
    reading-done _ _ _ _ _ (eqb-true _ _ (sym c.is_empty.ensures ∙ c.loop-rest-test.false)) c.loop-rest.invariant.reads ∙ ap Ok (sym c.of.ensures)

pub returns-clause-sound : goal.returns-clause-sound
returns-clause-sound c =
    lines_sound c.args.bytes.now _
    (reading-done _ _ _ _ _ (eqb-true _ _ (sym c.is_empty.ensures ∙ c.loop-rest-test.false)) c.loop-rest.invariant.reads ∙ ap Ok (sym c.of.ensures))

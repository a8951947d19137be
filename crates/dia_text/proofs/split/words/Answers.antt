use Rattle.std.proofs.lemmas.Bool.{eqb-true}
use Rattle.std.proofs.Common.{sym, ◌∙◌}
use Rattle.dia_text.proofs.PieceLemmas.{words-done}
use Rattle.dia_text.proofs.split.words.Goals as goal

pub returns : goal.returns
returns c =
    words-done _ _ _ (eqb-true _ _ (sym c.is_empty.ensures ∙ c.loop-rest-test.false)) c.loop-rest.invariant

use Rattle.std.proofs.Common.{◌≡◌, ◌≤◌, length}
use Rattle.row_defs.specs.Texts.{words_in_text}
use Rattle.dia_expr.proofs.texts.skip_blanks.Given as goal

abbrev pub invariant-loop-b : goal.invariant-loop-b
invariant-loop-b l = record {
  words : words_in_text l.rest ≡ words_in_text l.text;
  len : length l.rest ≤ length l.text;
}

abbrev pub decreases-loop-b : goal.decreases-loop-b
decreases-loop-b l = length l.rest

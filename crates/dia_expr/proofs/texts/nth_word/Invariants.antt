use Rattle.std.proofs.Common.{◌≡◌, ◌≤◌, [], length, slice_index_or}
use Rattle.row_defs.specs.Texts.{words_in_text}
use Rattle.dia_expr.proofs.texts.nth_word.Given as goal

abbrev pub invariant-loop-word : goal.invariant-loop-word
invariant-loop-word l = record {
  word : slice_index_or (words_in_text l.rest) l.before [] ≡ slice_index_or (words_in_text l.text) l.n [];
  len : length l.rest ≤ length l.text;
}

abbrev pub decreases-loop-word : goal.decreases-loop-word
decreases-loop-word l = length l.rest

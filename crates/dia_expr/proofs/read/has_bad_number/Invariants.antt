use Rattle.std.proofs.Common.{◌≡◌, drop}
use Rattle.std.specs.List.{list_any}
use Rattle.row_defs.specs.Expressions.{is_bad_number}
use Rattle.dia_expr.specs.Reads.{words_in}
use Rattle.dia_expr.proofs.read.has_bad_number.Given as goal

abbrev pub invariant-loop-word : goal.invariant-loop-word
invariant-loop-word l =
    list_any is_bad_number (words_in (drop l.word-index l.words)) ≡ list_any is_bad_number (words_in l.words)

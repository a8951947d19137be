use Rattle.std.proofs.Common.{◌≡◌, ◌<◌, ◌^◌, drop}
use Rattle.row_defs.specs.Texts.{number_spelled}
use Rattle.dia_expr.specs.Digits.{with_digits}
use Rattle.dia_expr.proofs.texts.number_spelled.Given as goal

abbrev pub invariant-loop-b : goal.invariant-loop-b
invariant-loop-b l = record {
  is : with_digits l.n (drop l.b-index l.text) ≡ number_spelled l.text;
  fits : l.n < 2 ^ 64;
}

-- What a word begins, as the definitions see it.
use Rattle.row_defs.specs.Values.{Expr, math, is_zero, compare, choose, len, num, spelled, part}
use Rattle.row_defs.specs.Expressions.{Beginning, whole, with_one, with_two, with_three}
use Rattle.dia_expr.specs.Exprs.{expr_in, math_in, comparison_in, part_in}
use Rattle.dia_expr.specs.declared.spelling.One as ones
use Rattle.dia_expr.specs.declared.spelling.One.TheVariants.{Not, Len, Num, Text}
use Rattle.dia_expr.specs.declared.spelling.Two as twos
use Rattle.dia_expr.specs.declared.spelling.Two.TheVariants.{Math, Compare, Part}
use Rattle.dia_expr.specs.declared.spelling.Form as forms
use Rattle.dia_expr.specs.declared.spelling.Form.TheVariants.{One, Two, If}
use Rattle.dia_expr.specs.declared.spelling.Beginning as beginnings
use Rattle.dia_expr.specs.declared.spelling.Beginning.TheVariants.{Whole, Form}

abbrev pub one_in : ones.One → Expr → Expr
one_in Not a = is_zero a
one_in Len a = len a
one_in Num a = num a
one_in Text a = spelled a

abbrev pub two_in : twos.Two → Expr → Expr → Expr
two_in (Math op) a b = math (math_in op) a b
two_in (Compare op) a b = compare (comparison_in op) a b
two_in (Part op) a b = part (part_in op) a b

abbrev pub form_in : forms.Form → Beginning
form_in (One one) = with_one (one_in one)
form_in (Two two) = with_two (two_in two)
form_in If = with_three choose

abbrev pub beginning_in : beginnings.Beginning → Beginning
beginning_in (Whole expr) = whole (expr_in expr)
beginning_in (Form form) = form_in form

-- The expression of the definitions that an `Expr` stands for.
use Rattle.std.specs.Prelude.{ℕ, List}
use Rattle.dia_expr.specs.declared.expr.Expr as code
use Rattle.dia_expr.specs.declared.expr.Expr.{Column, Number, Literal, Math', Not', Compare', If', Len', Num', Text', Part'}
use Rattle.dia_expr.specs.declared.expr.Literal as literals
use Rattle.dia_expr.specs.declared.expr.Math as maths
use Rattle.dia_expr.specs.declared.expr.Math.TheVariants.{Add, Sub, Mul, Div, Mod, Least, Most, And, Or, Xor}
use Rattle.dia_expr.specs.declared.expr.Comparison as comparisons
use Rattle.dia_expr.specs.declared.expr.Comparison.TheVariants.{Eq, Lt, Le}
use Rattle.dia_expr.specs.declared.expr.Part as parts
use Rattle.dia_expr.specs.declared.expr.Part.TheVariants.{Head, Tail, Word}
use Rattle.row_defs.specs.Values.{Math, plus, minus, times, quotient, remainder, smaller, larger, bits_and, bits_or, bits_xor, Comparison, equal, less, at_most, Part, prefix, suffix, nth_word, Expr, column, number, literal, math, is_zero, compare, choose, len, num, spelled, part}

abbrev pub math_in : maths.Math → Math
math_in Add = plus
math_in Sub = minus
math_in Mul = times
math_in Div = quotient
math_in Mod = remainder
math_in Least = smaller
math_in Most = larger
math_in And = bits_and
math_in Or = bits_or
math_in Xor = bits_xor

abbrev pub comparison_in : comparisons.Comparison → Comparison
comparison_in Eq = equal
comparison_in Lt = less
comparison_in Le = at_most

abbrev pub part_in : parts.Part → Part
part_in Head = prefix
part_in Tail = suffix
part_in Word = nth_word

abbrev pub literal_bytes : literals.Literal → List ℕ
literal_bytes t = t.bytes.items

abbrev pub expr_in : code.Expr → Expr
expr_in (Column i) = column i
expr_in (Number n) = number n
expr_in (Literal t) = literal (literal_bytes t)
expr_in (Math' op _ a _ b) = math (math_in op) (expr_in a) (expr_in b)
expr_in (Not' _ a) = is_zero (expr_in a)
expr_in (Compare' op _ x _ y) = compare (comparison_in op) (expr_in x) (expr_in y)
expr_in (If' _ c _ x _ y) = choose (expr_in c) (expr_in x) (expr_in y)
expr_in (Len' _ t) = len (expr_in t)
expr_in (Num' _ t) = num (expr_in t)
expr_in (Text' _ a) = spelled (expr_in a)
expr_in (Part' op _ a _ t) = part (part_in op) (expr_in a) (expr_in t)

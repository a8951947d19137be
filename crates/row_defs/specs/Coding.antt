-- Expressions as trees of numbers, from which they come back: a value that holds expressions is told apart by them.
use Rattle.std.specs.Prelude.{◌≡◌, ℕ, zero, suc, List, [], ◌∷◌, refl}
use Rattle.std.specs.Coded.{Coded, code_by}
use base.Stored.{Gv, gnil, gnum, gcons}
use Rattle.row_defs.specs.Values.{Math, plus, minus, times, quotient, remainder, smaller, larger, bits_and, bits_or, bits_xor, Comparison, equal, less, at_most, Part, prefix, suffix, nth_word, Expr, column, number, literal, math, is_zero, compare, choose, len, num, spelled, part}

abbrev pub number_from : Gv → ℕ
number_from (gnum n) = n
number_from _ = 0

abbrev pub tree_of_bytes : List ℕ → Gv
tree_of_bytes [] = gnil
tree_of_bytes (b ∷ bytes) = gcons (gnum b) (tree_of_bytes bytes)

abbrev pub bytes_from : Gv → List ℕ
bytes_from (gcons b bytes) = number_from b ∷ bytes_from bytes
bytes_from _ = []

pub bytes_from-tree_of_bytes : (bytes : List ℕ) → bytes_from (tree_of_bytes bytes) ≡ bytes
bytes_from-tree_of_bytes [] = refl
bytes_from-tree_of_bytes (b ∷ bytes) = λ i. b ∷ bytes_from-tree_of_bytes bytes i

abbrev pub math_number : Math → ℕ
math_number plus = 0
math_number minus = 1
math_number times = 2
math_number quotient = 3
math_number remainder = 4
math_number smaller = 5
math_number larger = 6
math_number bits_and = 7
math_number bits_or = 8
math_number bits_xor = 9

abbrev pub math_from : ℕ → Math
math_from zero = plus
math_from (suc zero) = minus
math_from (suc (suc zero)) = times
math_from (suc (suc (suc zero))) = quotient
math_from (suc (suc (suc (suc zero)))) = remainder
math_from (suc (suc (suc (suc (suc zero))))) = smaller
math_from (suc (suc (suc (suc (suc (suc zero)))))) = larger
math_from (suc (suc (suc (suc (suc (suc (suc zero))))))) = bits_and
math_from (suc (suc (suc (suc (suc (suc (suc (suc zero)))))))) = bits_or
math_from _ = bits_xor

pub math_from-math_number : (op : Math) → math_from (math_number op) ≡ op
math_from-math_number plus = refl
math_from-math_number minus = refl
math_from-math_number times = refl
math_from-math_number quotient = refl
math_from-math_number remainder = refl
math_from-math_number smaller = refl
math_from-math_number larger = refl
math_from-math_number bits_and = refl
math_from-math_number bits_or = refl
math_from-math_number bits_xor = refl

abbrev pub comparison_number : Comparison → ℕ
comparison_number equal = 0
comparison_number less = 1
comparison_number at_most = 2

abbrev pub comparison_from : ℕ → Comparison
comparison_from zero = equal
comparison_from (suc zero) = less
comparison_from _ = at_most

pub comparison_from-comparison_number : (op : Comparison) → comparison_from (comparison_number op) ≡ op
comparison_from-comparison_number equal = refl
comparison_from-comparison_number less = refl
comparison_from-comparison_number at_most = refl

abbrev pub part_number : Part → ℕ
part_number prefix = 0
part_number suffix = 1
part_number nth_word = 2

abbrev pub part_from : ℕ → Part
part_from zero = prefix
part_from (suc zero) = suffix
part_from _ = nth_word

pub part_from-part_number : (op : Part) → part_from (part_number op) ≡ op
part_from-part_number prefix = refl
part_from-part_number suffix = refl
part_from-part_number nth_word = refl

-- a form by its number, what it holds beside expressions, and three expressions
abbrev pub node : ℕ → Gv → Gv → Gv → Gv → Gv
node form held x y z = gcons (gnum form) (gcons held (gcons x (gcons y z)))

abbrev pub tree_of : Expr → Gv
tree_of (column i) = node 0 (gnum i) gnil gnil gnil
tree_of (number n) = node 1 (gnum n) gnil gnil gnil
tree_of (literal t) = node 2 (tree_of_bytes t) gnil gnil gnil
tree_of (math op a b) = node 3 (gnum (math_number op)) (tree_of a) (tree_of b) gnil
tree_of (is_zero a) = node 4 gnil (tree_of a) gnil gnil
tree_of (compare op x y) = node 5 (gnum (comparison_number op)) (tree_of x) (tree_of y) gnil
tree_of (choose c x y) = node 6 gnil (tree_of c) (tree_of x) (tree_of y)
tree_of (len t) = node 7 gnil (tree_of t) gnil gnil
tree_of (num t) = node 8 gnil (tree_of t) gnil gnil
tree_of (spelled a) = node 9 gnil (tree_of a) gnil gnil
tree_of (part op a t) = node 10 (gnum (part_number op)) (tree_of a) (tree_of t) gnil

abbrev pub form_from : ℕ → Gv → Expr → Expr → Expr → Expr
form_from zero held x y z = column (number_from held)
form_from (suc zero) held x y z = number (number_from held)
form_from (suc (suc zero)) held x y z = literal (bytes_from held)
form_from (suc (suc (suc zero))) held x y z = math (math_from (number_from held)) x y
form_from (suc (suc (suc (suc zero)))) held x y z = is_zero x
form_from (suc (suc (suc (suc (suc zero))))) held x y z = compare (comparison_from (number_from held)) x y
form_from (suc (suc (suc (suc (suc (suc zero)))))) held x y z = choose x y z
form_from (suc (suc (suc (suc (suc (suc (suc zero))))))) held x y z = len x
form_from (suc (suc (suc (suc (suc (suc (suc (suc zero)))))))) held x y z = num x
form_from (suc (suc (suc (suc (suc (suc (suc (suc (suc zero))))))))) held x y z = spelled x
form_from _ held x y z = part (part_from (number_from held)) x y

abbrev pub expr_from : Gv → Expr
expr_from (gcons form (gcons held (gcons x (gcons y z)))) = form_from (number_from form) held (expr_from x) (expr_from y) (expr_from z)
expr_from _ = number 0

pub expr_from-tree_of : (e : Expr) → expr_from (tree_of e) ≡ e
expr_from-tree_of (column i) = refl
expr_from-tree_of (number n) = refl
expr_from-tree_of (literal t) = λ i. literal (bytes_from-tree_of_bytes t i)
expr_from-tree_of (math op a b) = λ i. math (math_from-math_number op i) (expr_from-tree_of a i) (expr_from-tree_of b i)
expr_from-tree_of (is_zero a) = λ i. is_zero (expr_from-tree_of a i)
expr_from-tree_of (compare op x y) = λ i. compare (comparison_from-comparison_number op i) (expr_from-tree_of x i) (expr_from-tree_of y i)
expr_from-tree_of (choose c x y) = λ i. choose (expr_from-tree_of c i) (expr_from-tree_of x i) (expr_from-tree_of y i)
expr_from-tree_of (len t) = λ i. len (expr_from-tree_of t i)
expr_from-tree_of (num t) = λ i. num (expr_from-tree_of t i)
expr_from-tree_of (spelled a) = λ i. spelled (expr_from-tree_of a i)
expr_from-tree_of (part op a t) = λ i. part (part_from-part_number op i) (expr_from-tree_of a i) (expr_from-tree_of t i)

abbrev pub tree_code : Coded Gv
tree_code = record { code = λ tree. tree; inj = λ x y same. same }

abbrev pub expr_code : Coded Expr
expr_code = code_by Gv tree_code tree_of expr_from expr_from-tree_of

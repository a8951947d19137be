-- Expressions: their kinds, and their values on a row.
use Rattle.std.specs.Prelude.{ℕ, ◌+◌, ◌-◌, ◌*◌, ◌/◌, ◌%◌, ◌^◌, ◌==◌, nat_le, min, max, bit_and, bit_or, bit_xor, Bool, true, false, ◌&&◌, ◌||◌, List, [], length, take, drop, Option, None, Some, slice_get, if◌then◌else◌}
use Rattle.std.specs.List.{slice_index_or}
use Rattle.std.specs.declared.cmp.Ordering.{Ordering}
use Rattle.std.specs.Ordering.{is_eq, is_lt, is_le}
use Rattle.std.specs.Fmt.{decimal}
use Rattle.row_defs.specs.Rows.{Cell, int, text, Row, cell_cmp}
use Rattle.row_defs.specs.Texts.{words_in_text, number_or_0}
use Rattle.row_defs.specs.declared.kind.Kind.{Kind}
use Rattle.row_defs.specs.declared.kind.Kind.TheVariants.{Int, Text}

-- what is made of two numbers
pub data Math : Type 0 where
  plus : Math
  minus : Math
  times : Math
  quotient : Math
  remainder : Math
  smaller : Math
  larger : Math
  bits_and : Math
  bits_or : Math
  bits_xor : Math

-- what is asked of two fields
pub data Comparison : Type 0 where
  equal : Comparison
  less : Comparison
  at_most : Comparison

-- which part of a text
pub data Part : Type 0 where
  prefix : Part
  suffix : Part
  nth_word : Part

pub data Expr : Type 0 where
  column : ℕ → Expr
  number : ℕ → Expr
  literal : List ℕ → Expr
  math : Math → Expr → Expr → Expr
  is_zero : Expr → Expr
  compare : Comparison → Expr → Expr → Expr
  choose : Expr → Expr → Expr → Expr  -- the second where the first isn't 0, else the third
  len : Expr → Expr
  num : Expr → Expr
  spelled : Expr → Expr  -- a number in decimal
  part : Part → Expr → Expr → Expr  -- which, and of which text

-- kinds -------------------------------------------------------------------------------------------------------

abbrev pub is_int : Option Kind → Bool
is_int (Some Int) = true
is_int _ = false

abbrev pub is_text : Option Kind → Bool
is_text (Some Text) = true
is_text _ = false

abbrev pub are_alike : Option Kind → Option Kind → Bool
are_alike x y = is_int x && is_int y || is_text x && is_text y

abbrev pub kind_where : Bool → Option Kind → Option Kind
kind_where holds kind = if holds then kind else None

-- the kind of an expression on rows of these kinds, where it has one
abbrev pub expr_kind : List Kind → Expr → Option Kind
expr_kind kinds (column i) = slice_get kinds i
expr_kind kinds (number n) = Some Int
expr_kind kinds (literal t) = Some Text
expr_kind kinds (math op a b) = kind_where (is_int (expr_kind kinds a) && is_int (expr_kind kinds b)) (Some Int)
expr_kind kinds (is_zero a) = kind_where (is_int (expr_kind kinds a)) (Some Int)
expr_kind kinds (compare op x y) = kind_where (are_alike (expr_kind kinds x) (expr_kind kinds y)) (Some Int)
expr_kind kinds (choose c x y) = kind_where (is_int (expr_kind kinds c) && are_alike (expr_kind kinds x) (expr_kind kinds y)) (expr_kind kinds x)
expr_kind kinds (len t) = kind_where (is_text (expr_kind kinds t)) (Some Int)
expr_kind kinds (num t) = kind_where (is_text (expr_kind kinds t)) (Some Int)
expr_kind kinds (spelled a) = kind_where (is_int (expr_kind kinds a)) (Some Text)
expr_kind kinds (part op a t) = kind_where (is_int (expr_kind kinds a) && is_text (expr_kind kinds t)) (Some Text)

-- whether a column is named that isn't one of so many
abbrev pub lacks_column : ℕ → Expr → Bool
lacks_column n (column i) = nat_le n i
lacks_column n (number _) = false
lacks_column n (literal _) = false
lacks_column n (math op a b) = lacks_column n a || lacks_column n b
lacks_column n (is_zero a) = lacks_column n a
lacks_column n (compare op x y) = lacks_column n x || lacks_column n y
lacks_column n (choose c x y) = lacks_column n c || lacks_column n x || lacks_column n y
lacks_column n (len t) = lacks_column n t
lacks_column n (num t) = lacks_column n t
lacks_column n (spelled a) = lacks_column n a
lacks_column n (part op a t) = lacks_column n a || lacks_column n t

-- values ------------------------------------------------------------------------------------------------------

abbrev pub number_in : Cell → ℕ
number_in (int n) = n
number_in (text t) = 0

abbrev pub bytes_in : Cell → List ℕ
bytes_in (int n) = []
bytes_in (text t) = t

-- 1 where it holds, else 0
abbrev pub flag : Bool → ℕ
flag true = 1
flag false = 0

abbrev pub math_value : Math → ℕ → ℕ → ℕ
math_value plus a b = (a + b) % 2 ^ 64
math_value minus a b = (a + (2 ^ 64 - b)) % 2 ^ 64
math_value times a b = (a * b) % 2 ^ 64
math_value quotient a b = if b == 0 then 0 else a / b
math_value remainder a b = if b == 0 then 0 else a % b
math_value smaller a b = min a b
math_value larger a b = max a b
math_value bits_and a b = bit_and a b
math_value bits_or a b = bit_or a b
math_value bits_xor a b = bit_xor a b

-- whether two fields in this order are so
abbrev pub holds : Comparison → Ordering → Bool
holds equal order = is_eq order
holds less order = is_lt order
holds at_most order = is_le order

abbrev pub part_of : Part → ℕ → List ℕ → List ℕ
part_of prefix n t = take n t
part_of suffix n t = drop n t
part_of nth_word n t = slice_index_or (words_in_text t) n []

-- the value on a row; an expression that has a kind finds its columns and its operands' kinds there
abbrev pub value_of : Expr → Row → Cell
value_of (column i) row = slice_index_or row i (int 0)
value_of (number n) row = int n
value_of (literal t) row = text t
value_of (math op a b) row = int (math_value op (number_in (value_of a row)) (number_in (value_of b row)))
value_of (is_zero a) row = int (flag (number_in (value_of a row) == 0))
value_of (compare op x y) row = int (flag (holds op (cell_cmp (value_of x row) (value_of y row))))
value_of (choose c x y) row = if number_in (value_of c row) == 0 then value_of y row else value_of x row
value_of (len t) row = int (length (bytes_in (value_of t row)))
value_of (num t) row = int (number_or_0 (bytes_in (value_of t row)))
value_of (spelled a) row = text (decimal (number_in (value_of a row)))
value_of (part op a t) row = text (part_of op (number_in (value_of a row)) (bytes_in (value_of t row)))

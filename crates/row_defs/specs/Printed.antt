-- How rows and numbers are printed.
use Rattle.std.specs.Prelude.{ℕ, ◌%◌, ◌^◌, List, [], ◌∷◌, ◌++◌, map}
use Rattle.std.specs.List.{join_with_byte, sum_by}
use Rattle.std.specs.Fmt.{decimal}
use Rattle.row_defs.specs.Rows.{Cell, int, text, Row}
use Rattle.row_defs.specs.Values.{column, number_in, value_of}

-- a number in decimal, a text as its bytes
abbrev pub cell_text : Cell → List ℕ
cell_text (int n) = decimal n
cell_text (text t) = t

-- the columns joined by TAB, and LF
abbrev pub row_text : Row → List ℕ
row_text row = join_with_byte 9 (map cell_text row) ++ 10 ∷ []

-- a number on a line of its own
abbrev pub number_line : ℕ → List ℕ
number_line n = decimal n ++ 10 ∷ []

-- the sum of a column, modulo 2^64
abbrev pub column_sum : ℕ → List Row → ℕ
column_sum c rows = sum_by (λ row. number_in (value_of (column c) row)) rows % 2 ^ 64

-- What the sinks hold of the rows that they took.
use Rattle.std.specs.Prelude.{◌≡◌, ℕ, ◌+◌, ◌%◌, ◌^◌, List}
use Rattle.std.specs.List.{sum_by}
use Rattle.row_defs.specs.Rows.{Row}
use Rattle.row_defs.specs.Values.{column, number_in, value_of}

-- the number in a column
abbrev pub number_at : ℕ → Row → ℕ
number_at c row = number_in (value_of (column c) row)

abbrev pub added : ℕ → List Row → ℕ
added c rows = sum_by (number_at c) rows

-- so much more, modulo 2^64
abbrev pub summed : ℕ → ℕ → ℕ → Type 0
summed before more now = now % 2 ^ 64 ≡ (before + more) % 2 ^ 64

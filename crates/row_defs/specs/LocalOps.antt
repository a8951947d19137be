-- Local lines: the rows that they make of one row.
use Rattle.std.specs.Prelude.{◌≡◌, ℕ, ◌+◌, ◌%◌, ◌^◌, ◌<◌, ◌≤◌, ◌==◌, List, [], ◌∷◌, length, map, slice_get, slice_set, Some, IsSome, if◌then◌else◌}
use Rattle.std.specs.List.{flat_map, filter_map, range_with_len}
use Rattle.row_defs.specs.declared.kind.Kind.{Kind}
use Rattle.row_defs.specs.declared.kind.Kind.TheVariants.{Int, Text}
use Rattle.row_defs.specs.Limits.{most_columns}
use Rattle.row_defs.specs.Rows.{int, text, Row}
use Rattle.row_defs.specs.Texts.{words_in_text}
use Rattle.row_defs.specs.Values.{Expr, column, number_in, bytes_in, value_of, expr_kind}

-- one local line: what it makes of a row rests on that row alone
pub data LocalOp : Type 0 where
  map_op : List Expr → LocalOp  -- the row of these expressions' values
  filter_op : Expr → LocalOp  -- the row, where the expression isn't 0
  words_op : ℕ → LocalOp  -- the row with each word of this column in the column's place
  spread_op : ℕ → ℕ → LocalOp  -- the row with each number below the second added to this column

-- the row with the word in a column's place
abbrev pub with_word : Row → ℕ → List ℕ → Row
with_word row c word = slice_set row c (text word)

-- the row with so much added to a column
abbrev pub raised : Row → ℕ → ℕ → Row
raised row c by = slice_set row c (int ((number_in (value_of (column c) row) + by) % 2 ^ 64))

-- the rows that a local line makes of one row
abbrev pub rows_made : LocalOp → Row → List Row
rows_made (map_op exprs) row = map (λ e. value_of e row) exprs ∷ []
rows_made (filter_op e) row = if number_in (value_of e row) == 0 then [] else row ∷ []
rows_made (words_op c) row = map (with_word row c) (words_in_text (bytes_in (value_of (column c) row)))
rows_made (spread_op c count) row = map (raised row c) (range_with_len 0 count)

-- the rows that local lines, one after the other, make of one row
abbrev pub rows_through : List LocalOp → Row → List Row
rows_through [] row = row ∷ []
rows_through (op ∷ ops) row = flat_map (rows_through ops) (rows_made op row)

-- kinds -------------------------------------------------------------------------------------------------------

-- the most numbers that a local line adds to a column
abbrev pub most_spread : ℕ
most_spread = 16

-- each expression has a kind on rows of these kinds
abbrev pub HaveKinds : List Kind → List Expr → Type 0
HaveKinds kinds [] = Unit {0}
HaveKinds kinds (e ∷ exprs) = IsSome (expr_kind kinds e) × HaveKinds kinds exprs

-- a local line takes rows of these kinds, and makes rows of one to six columns
abbrev pub IsSoundOp : List Kind → LocalOp → Type 0
IsSoundOp kinds (map_op exprs) = HaveKinds kinds exprs × (0 < length exprs) × (length exprs ≤ most_columns)
IsSoundOp kinds (filter_op e) = expr_kind kinds e ≡ Some Int
IsSoundOp kinds (words_op c) = slice_get kinds c ≡ Some Text
IsSoundOp kinds (spread_op c count) = (slice_get kinds c ≡ Some Int) × (1 ≤ count) × (count ≤ most_spread)

-- the kinds of the rows that it makes
abbrev pub op_kinds : List Kind → LocalOp → List Kind
op_kinds kinds (map_op exprs) = filter_map (expr_kind kinds) exprs
op_kinds kinds (filter_op e) = kinds
op_kinds kinds (words_op c) = kinds
op_kinds kinds (spread_op c count) = kinds

-- of rows of the first kinds the local lines, one after the other, make rows of the second
abbrev pub AreSoundOps : List Kind → List LocalOp → List Kind → Type 0
AreSoundOps from [] to = from ≡ to
AreSoundOps from (op ∷ ops) to = IsSoundOp from op × AreSoundOps (op_kinds from op) ops to

-- How many rows local lines make.
use Rattle.std.specs.Prelude.{◌≡◌, ℕ, ◌+◌, ◌*◌, ◌/◌, ◌%◌, ◌-◌, ◌^◌, ◌<◌, ◌≤◌, min, max, Bool, true, false, List, [], ◌∷◌, length, map, take, replicate, slice_set, ⊤, if◌then◌else◌}
use Rattle.std.specs.List.{AllByRecursion, list_all, slice_index_or}
use Rattle.row_defs.specs.Values.{Expr, column, literal, choose, spelled, part, Part, nth_word}
use Rattle.row_defs.specs.Rows.{Cell, int, text, Row}
use Rattle.row_defs.specs.Limits.{most_columns}
use Rattle.row_defs.specs.LocalOps.{LocalOp, map_op, filter_op, words_op, spread_op}
use Rattle.row_growth.specs.declared.growing.Extent.{Extent}
use Rattle.row_growth.specs.declared.growing.Extent.TheVariants.{Exactly, AtMost}

-- texts ---------------------------------------------------------------------------------------------------------------

-- a cell whose text, if it is one, has at most so many bytes
abbrev pub IsWithin : ℕ → Cell → Type 0
IsWithin longest (int n) = ⊤
IsWithin longest (text t) = length t ≤ longest

abbrev pub AreWithin : ℕ → Row → Type 0
AreWithin longest row = AllByRecursion (IsWithin longest) row

-- so many words a text of so many bytes has at most: words of one byte, and a blank between any two
abbrev pub most_words : ℕ → ℕ
most_words len = len / 2 + len % 2

-- words ---------------------------------------------------------------------------------------------------------------

-- a bound that says nothing
abbrev pub untold : ℕ
untold = 2 ^ 64 - 1

-- so many words the text in a column has at most: each of the first columns has a bound
abbrev pub words_at : List ℕ → ℕ → ℕ
words_at bounds c = slice_index_or bounds c untold

-- a part of a text has no more than the text, and a word is one
abbrev pub words_of_part : Part → ℕ → ℕ
words_of_part nth_word n = 1
words_of_part _ n = n

-- so many the value of an expression has at most: one where it is a number that is spelled, and none where it is a number
abbrev pub words_of : List ℕ → Expr → ℕ
words_of bounds (column c) = words_at bounds c
words_of bounds (literal t) = most_words (length t)
words_of bounds (choose c x y) = max (words_of bounds x) (words_of bounds y)
words_of bounds (spelled a) = 1
words_of bounds (part op a t) = words_of_part op (words_of bounds t)
words_of bounds _ = 0

-- the bounds for the row of these expressions' values
abbrev pub words_of_each : List ℕ → List Expr → List ℕ
words_of_each bounds exprs = map (words_of bounds) (take most_columns exprs)

-- those for a row whose texts have at most so many bytes
abbrev pub words_within : ℕ → List ℕ
words_within longest = replicate most_columns (most_words longest)

-- growth --------------------------------------------------------------------------------------------------------------

-- so many rows the lines make at most of one row with these bounds
abbrev pub growth : List ℕ → List LocalOp → ℕ
growth bounds [] = 1
growth bounds (map_op exprs ∷ ops) = growth (words_of_each bounds exprs) ops
growth bounds (filter_op e ∷ ops) = growth bounds ops
growth bounds (words_op c ∷ ops) = growth (slice_set bounds c 1) ops * words_at bounds c
growth bounds (spread_op c count ∷ ops) = growth bounds ops * count

-- whether a line makes as many rows of each row
abbrev pub is_even_op : LocalOp → Bool
is_even_op (map_op exprs) = true
is_even_op (filter_op e) = false
is_even_op (words_op c) = false
is_even_op (spread_op c count) = true

abbrev pub are_even : List LocalOp → Bool
are_even ops = list_all is_even_op ops

-- what the lines make of so many rows, whose texts have at most so many bytes, as far as it is known at once: a count that
-- is too great for 64 bits stands still
abbrev pub extent : ℕ → ℕ → List LocalOp → Extent
extent rows longest ops = let made = min (rows * growth (words_within longest) ops) (2 ^ 64 - 1) in if are_even ops then Exactly made else AtMost made

-- it tells of so many rows: how many there are, or no more than that; of too great a count, nothing but that it is
abbrev pub TellsExtent : Extent → ℕ → Type 0
TellsExtent (Exactly n) rows = n ≡ min rows (2 ^ 64 - 1)
TellsExtent (AtMost n) rows = n < 2 ^ 64 - 1 → rows ≤ n

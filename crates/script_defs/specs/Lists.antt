-- What a script's lines mean: one list of rows for each, on the lists of the lines that it names.
use Rattle.std.specs.Prelude.{◌≡◌, ℕ, nat_lt, List, [], length, map, Option, None, Some, if◌then◌else◌}
use Rattle.std.specs.Option.{option_map}
use Rattle.std.specs.List.{flat_map, range_with_len}
use Rattle.row_defs.specs.Limits.{most_rows}
use Rattle.row_defs.specs.Rows.{Row, number_row}
use Rattle.row_defs.specs.Pieces.{line_rows}
use Rattle.row_defs.specs.LocalOps.{rows_made}
use Rattle.row_defs.specs.Inputs.{Inputs, InputFailure, failure_of_input}
use Rattle.script_defs.specs.Scripts.{Form, lines_form, generate_form, local_form, cache_form, Action, action_operand}

-- the list of each script line that has one
abbrev pub Lists : Type 0
Lists = ℕ → Option (List Row)

-- the list is a result of the line's definition
abbrev pub IsLine : Inputs → Lists → Form → List Row → Type 0
IsLine inputs lists (lines_form input) rows = (bytes : List ℕ) × (inputs input ≡ Some bytes) × (rows ≡ line_rows bytes)
IsLine inputs lists (generate_form count) rows = rows ≡ map number_row (range_with_len 0 count)
IsLine inputs lists (local_form of op) rows = (a : List Row) × (lists of ≡ Some a) × (rows ≡ flat_map (rows_made op) a)
IsLine inputs lists (cache_form of) rows = lists of ≡ Some rows

-- why a line or an action is not done
pub data Failure : Type 0 where
  input_failure : InputFailure → Failure  -- its input isn't read
  too_many_rows : Failure  -- more rows arrive than may

-- the rows of a line that has a list
abbrev pub rows_in : Option (List Row) → List Row
rows_in None = []
rows_in (Some rows) = rows

-- more of them arrive than may
abbrev pub too_many_in : Option (List Row) → Option Failure
too_many_in rows = if nat_lt most_rows (length (rows_in rows)) then Some too_many_rows else None

-- a line whose rows are made anew at each use has no cause of its own
abbrev pub failure_of_form : Inputs → Lists → Form → Option Failure
failure_of_form inputs lists (lines_form input) = option_map input_failure (failure_of_input (inputs input))
failure_of_form inputs lists (generate_form count) = None
failure_of_form inputs lists (local_form of op) = None
failure_of_form inputs lists (cache_form of) = too_many_in (lists of)

-- an action isn't done where more rows arrive than may
abbrev pub failure_of_action : Lists → Action → Option Failure
failure_of_action lists action = too_many_in (lists (action_operand action))

-- The limits of rows and inputs. `src/limits.rt` has them for the code.
use Rattle.std.specs.Prelude.{ℕ, ◌^◌}

-- a text has at most this many bytes, and so has an input's line
abbrev pub longest_text : ℕ
longest_text = 65536

-- a row has at most this many columns
abbrev pub most_columns : ℕ
most_columns = 6

-- an input has at most this many bytes
abbrev pub longest_input : ℕ
longest_input = 2 ^ 32

-- at most this many rows arrive at an action
abbrev pub most_rows : ℕ
most_rows = 2 ^ 40

-- Inputs: what their names hold, and why an input's lines aren't read.
use Rattle.std.specs.Prelude.{ℕ, nat_lt, Bool, List, length, take, Option, None, Some, if◌then◌else◌}
use Rattle.std.specs.List.{position_from}
use Rattle.row_defs.specs.Limits.{longest_text, longest_input}
use Rattle.row_defs.specs.Pieces.{lines_of}

-- the bytes of each input, or none where there is no such input
abbrev pub Inputs : Type 0
Inputs = List ℕ → Option (List ℕ)

-- why an input's lines aren't read
pub data InputFailure : Type 0 where
  missing : InputFailure  -- there is no such input
  line_too_long : ℕ → InputFailure  -- this line of the input, from 1, is longer than a text may be
  input_too_long : InputFailure  -- the input is longer than an input may be

abbrev pub is_long : List ℕ → Bool
is_long line = nat_lt longest_text (length line)

-- the first line longer than a text may be, from 1, within what an input may have
abbrev pub long_line : List ℕ → Option ℕ
long_line bytes = position_from is_long 1 (lines_of (take longest_input bytes))

abbrev pub failure_of_long_line : Option ℕ → List ℕ → Option InputFailure
failure_of_long_line (Some n) bytes = Some (line_too_long n)
failure_of_long_line None bytes = if nat_lt longest_input (length bytes) then Some input_too_long else None

abbrev pub failure_of_input : Option (List ℕ) → Option InputFailure
failure_of_input None = Some missing
failure_of_input (Some bytes) = failure_of_long_line (long_line bytes) bytes

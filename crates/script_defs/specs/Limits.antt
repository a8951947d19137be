-- The limits of scripts. `src/limits.rt` has them for the code.
use Rattle.std.specs.Prelude.{ℕ, ◌^◌}

-- a script has at most this many bytes
abbrev pub script_limit : ℕ
script_limit = 131328

-- and this many lines
abbrev pub script_lines_limit : ℕ
script_lines_limit = 256

-- each of at most this many bytes
abbrev pub line_limit : ℕ
line_limit = 512

-- a `generate` makes at most this many numbers
abbrev pub most_numbers : ℕ
most_numbers = 2 ^ 32

-- How large a row can be.
use Rattle.std.specs.Prelude.{ℕ, ◌+◌, ◌*◌}
use Rattle.row_defs.specs.Limits.{longest_text}

-- the bytes of the longest field: the 4 of its length, and its own
abbrev pub longest_field : ℕ
longest_field = 4 + longest_text

abbrev pub longest_row : ℕ
longest_row = 6 * longest_field

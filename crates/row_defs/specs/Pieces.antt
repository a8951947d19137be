-- Bytes cut at a separator: an input's lines, a script's lines, a line's words.
use Rattle.std.specs.Prelude.{ℕ, ◌==◌, nat_lt, Bool, List, [], ◌∷◌, ◌++◌, length, map, filter, if◌then◌else◌}
use Rattle.row_defs.specs.Rows.{Row, text}

-- a last piece that is empty is none
abbrev pub last_piece : List ℕ → List (List ℕ)
last_piece [] = []
last_piece (b ∷ run) = (b ∷ run) ∷ []

-- the pieces between separators, where `run` came since the last separator
unfoldable pub pieces_from : ℕ → List ℕ → List ℕ → List (List ℕ)
pieces_from separator run [] = last_piece run
pieces_from separator run (b ∷ bytes) =
    if b == separator then run ∷ pieces_from separator [] bytes else pieces_from separator (run ++ b ∷ []) bytes

abbrev pub line_feed : ℕ
line_feed = 10

-- the pieces between LF bytes, without a last one that is empty
abbrev pub lines_of : List ℕ → List (List ℕ)
lines_of bytes = pieces_from line_feed [] bytes

abbrev pub is_some_bytes : List ℕ → Bool
is_some_bytes bytes = nat_lt 0 (length bytes)

abbrev pub space : ℕ
space = 32

-- the maximal runs of bytes other than a space
abbrev pub words_of : List ℕ → List (List ℕ)
words_of line = filter is_some_bytes (pieces_from space [] line)

-- the list of an input: each line is a row of one text
abbrev pub line_row : List ℕ → Row
line_row line = text line ∷ []

abbrev pub line_rows : List ℕ → List Row
line_rows bytes = map line_row (lines_of bytes)

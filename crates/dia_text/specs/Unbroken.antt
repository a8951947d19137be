-- Bytes without a separator.
use Rattle.std.specs.Prelude.{◌≡◌, ℕ, List, ◌++◌}
use Rattle.row_defs.specs.Pieces.{pieces_from}

-- the bytes go on with the piece that they come to
abbrev pub IsUnbroken : ℕ → List ℕ → Type 0
IsUnbroken separator bytes =
    (run rest : List ℕ) → pieces_from separator run (bytes ++ rest) ≡ pieces_from separator (run ++ bytes) rest

-- What the lines of bytes are.
use Rattle.std.specs.Prelude.{◌≡◌, ◌≢◌, ◌↔◌, ℕ, ◌==◌, List, [], ◌∷◌, ◌++◌, if◌then◌else◌}
use Rattle.std.specs.List.{AllByRecursion, join_with_byte}
use Rattle.row_defs.specs.Pieces.{line_feed, lines_of}

-- LF, if the bytes end in it
abbrev pub final_line_feed : List ℕ → List ℕ
final_line_feed [] = []
final_line_feed (b ∷ []) = if b == line_feed then line_feed ∷ [] else []
final_line_feed (b ∷ c ∷ bytes) = final_line_feed (c ∷ bytes)

abbrev pub HasNoLineFeed : List ℕ → Type 0
HasNoLineFeed line = AllByRecursion (λ b. b ≢ line_feed) line

-- with an LF between each two lines, and one behind the last if the bytes end in LF, the lines are the bytes; no line has
-- an LF; and there is no line exactly where there is no byte, so a lone LF makes one empty line
pub record AreLines (bytes : List ℕ) (lines : List (List ℕ)) : Type 0 where
  pub joined : join_with_byte line_feed lines ++ final_line_feed bytes ≡ bytes
  pub whole : AllByRecursion HasNoLineFeed lines
  pub none : (lines ≡ []) ↔ (bytes ≡ [])

abbrev pub LinesAreBytes : Type 0
LinesAreBytes = (bytes : List ℕ) → AreLines bytes (lines_of bytes)

-- no other lists of bytes are lines of these
abbrev pub NoOtherLines : Type 0
NoOtherLines = (bytes : List ℕ) (lines : List (List ℕ)) → AreLines bytes lines → lines ≡ lines_of bytes

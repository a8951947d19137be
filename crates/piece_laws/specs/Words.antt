-- What the words of bytes are.
use Rattle.std.specs.Prelude.{◌≡◌, ◌<◌, ◌≤◌, ℕ, ◌==◌, Bool, true, false, List, [], ◌∷◌, ◌++◌, length}
use Rattle.std.specs.List.{AllByRecursion}
use Rattle.row_defs.specs.Pieces.{space, words_of}
use Rattle.row_defs.specs.Texts.{is_blank, words_in_text}

-- each byte parts words
abbrev pub IsGap : (ℕ → Bool) → List ℕ → Type 0
IsGap parts bytes = AllByRecursion (λ b. parts b ≡ true) bytes

-- it has a byte, and no byte that parts words
abbrev pub IsWord : (ℕ → Bool) → List ℕ → Type 0
IsWord parts word = (0 < length word) × AllByRecursion (λ b. parts b ≡ false) word

-- the bytes are a gap, then each word with a gap behind it: the gap before the first word has `least` bytes or more, one
-- between two words has a byte or more, and the last gap may be empty
abbrev pub IsSpread : (ℕ → Bool) → ℕ → List ℕ → List (List ℕ) → Type 0
IsSpread parts least bytes [] = IsGap parts bytes
IsSpread parts least bytes (word ∷ words) =
    (gap rest : List ℕ) × IsGap parts gap × (least ≤ length gap) × (bytes ≡ gap ++ (word ++ rest)) × IsSpread parts 1 rest words

-- the bytes are these words with gaps around them, where only the first gap and the last may be empty
pub record AreWords (parts : ℕ → Bool) (bytes : List ℕ) (words : List (List ℕ)) : Type 0 where
  pub each : AllByRecursion (IsWord parts) words
  pub spread : IsSpread parts 0 bytes words

abbrev pub is_space : ℕ → Bool
is_space b = b == space

-- a script line's words stand between spaces
abbrev pub WordsAreRuns : Type 0
WordsAreRuns = (line : List ℕ) → AreWords is_space line (words_of line)

-- a text's words stand between blanks: spaces, TABs and CRs
abbrev pub TextWordsAreRuns : Type 0
TextWordsAreRuns = (bytes : List ℕ) → AreWords is_blank bytes (words_in_text bytes)

-- no other lists of bytes are words of the line
abbrev pub NoOtherWords : Type 0
NoOtherWords = (line : List ℕ) (words : List (List ℕ)) → AreWords is_space line words → words ≡ words_of line

-- no other lists of bytes are words of the text
abbrev pub NoOtherTextWords : Type 0
NoOtherTextWords = (bytes : List ℕ) (words : List (List ℕ)) → AreWords is_blank bytes words → words ≡ words_in_text bytes

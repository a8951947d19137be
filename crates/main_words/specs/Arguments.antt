-- The arguments of a program, and why they aren't words.
use Rattle.std.specs.Prelude.{◌≡◌, ◌⊎◌, ℕ, List, [], map, All, Any, IsUtf8, Vec}
use Rattle.std.specs.declared.alloc.Global.{Global}
use Rattle.main_words.specs.declared.words.WordsErr.{WordsErr}
use Rattle.main_words.specs.declared.words.WordsErr.TheVariants.{NotUtf8, NoMemory}

-- each argument's bytes
abbrev pub arguments : List (Vec ℕ Global) → List (List ℕ)
arguments = map (λ arg. arg.items)

abbrev pub IsNotUtf8 : List ℕ → Type 0
IsNotUtf8 bytes = ¬ (IsUtf8 bytes)

-- why these bytes aren't a word
abbrev pub IsNoText : WordsErr → List ℕ → Type 0
IsNoText NotUtf8 bytes = IsNotUtf8 bytes
IsNoText NoMemory bytes = Unit {0}

-- why these arguments aren't words
abbrev pub IsReason : WordsErr → List (List ℕ) → Type 0
IsReason NotUtf8 args = Any IsNotUtf8 args
IsReason NoMemory args = Unit {0}

-- the words are the arguments, which are all UTF-8; or there are none, since one isn't
abbrev pub AreWords : List (List ℕ) → List (List ℕ) → Type 0
AreWords words args = (All IsUtf8 args × (words ≡ args)) ⊎ (Any IsNotUtf8 args × (words ≡ []))

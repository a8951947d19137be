-- Where a word runs and where it ends.
use Rattle.std.specs.Prelude.{◌≡◌, ℕ, true, false, List, [], ◌∷◌}
use Rattle.row_defs.specs.Texts.{is_blank}

-- no byte parts words
abbrev pub AreNoBlanks : List ℕ → Type 0
AreNoBlanks [] = Unit {0}
AreNoBlanks (b ∷ bytes) = (is_blank b ≡ false) × AreNoBlanks bytes

-- a word that came before ends here
abbrev pub EndsWord : List ℕ → Type 0
EndsWord [] = Unit {0}
EndsWord (b ∷ bytes) = is_blank b ≡ true

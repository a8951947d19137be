-- What texts hold: their words, and the number that one spells.
use Rattle.std.specs.Prelude.{ℕ, ◌+◌, ◌*◌, ◌-◌, ◌^◌, ◌==◌, nat_lt, nat_le, Bool, ◌&&◌, ◌||◌, List, [], ◌∷◌, ◌++◌, length, Option, None, Some, unwrap_or, if◌then◌else◌}
use Rattle.std.specs.List.{list_all}

-- words -------------------------------------------------------------------------------------------------------

-- space, TAB and CR part words
abbrev pub is_blank : ℕ → Bool
is_blank b = b == 32 || b == 9 || b == 13

-- the word that ends here, if it has a byte
abbrev pub ended_word : List ℕ → List (List ℕ)
ended_word [] = []
ended_word (b ∷ run) = (b ∷ run) ∷ []

-- the maximal runs of other bytes, where `run` came since the last blank
unfoldable pub words_after : List ℕ → List ℕ → List (List ℕ)
words_after run [] = ended_word run
words_after run (b ∷ bytes) = if is_blank b then ended_word run ++ words_after [] bytes else words_after (run ++ b ∷ []) bytes

abbrev pub words_in_text : List ℕ → List (List ℕ)
words_in_text bytes = words_after [] bytes

-- numbers -----------------------------------------------------------------------------------------------------

abbrev pub is_decimal : ℕ → Bool
is_decimal b = nat_le 48 b && nat_le b 57

-- the number whose digits are those of n and then these
abbrev pub number_after : ℕ → List ℕ → ℕ
number_after n [] = n
number_after n (b ∷ bytes) = number_after (n * 10 + (b - 48)) bytes

abbrev pub number_of_digits : List ℕ → ℕ
number_of_digits bytes = number_after 0 bytes

-- 1 to 20 decimal digits that make a number below 2^64; zeros may lead
abbrev pub is_number : List ℕ → Bool
is_number bytes = nat_le 1 (length bytes) && nat_le (length bytes) 20 && list_all is_decimal bytes && nat_lt (number_of_digits bytes) (2 ^ 64)

abbrev pub number_spelled : List ℕ → Option ℕ
number_spelled bytes = if is_number bytes then Some (number_of_digits bytes) else None

-- the number that a text spells, or 0
abbrev pub number_or_0 : List ℕ → ℕ
number_or_0 bytes = unwrap_or (number_spelled bytes) 0

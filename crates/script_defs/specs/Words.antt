-- How the words of the language are spelled: one table, read in both directions.
use Rattle.std.specs.Prelude.{ℕ, List, [], ◌∷◌, Option, find, codes}
use Rattle.std.specs.Str.{bytes_eq}
use Rattle.script_defs.specs.declared.word.Word.{Word}
use Rattle.script_defs.specs.declared.word.Word.TheVariants.{Lines, Generate, Map, Filter, FlatMap, Cache, Print, Size, Sum}
use Rattle.script_defs.specs.declared.word.Selector.{Selector}
use Rattle.script_defs.specs.declared.word.Selector.TheVariants.{Words, Spread}

abbrev pub spelled : Word → List ℕ
spelled Lines = codes "lines"
spelled Generate = codes "generate"
spelled Map = codes "map"
spelled Filter = codes "filter"
spelled FlatMap = codes "flatmap"
spelled Cache = codes "cache"
spelled Print = codes "print"
spelled Size = codes "size"
spelled Sum = codes "sum"

abbrev pub all_words : List Word
all_words = Lines ∷ Generate ∷ Map ∷ Filter ∷ FlatMap ∷ Cache ∷ Print ∷ Size ∷ Sum ∷ []

-- the word that is spelled so
abbrev pub word_spelled : List ℕ → Option Word
word_spelled bytes = find (λ word. bytes_eq (spelled word) bytes) all_words

abbrev pub selector_name : Selector → List ℕ
selector_name Words = codes "words"
selector_name Spread = codes "spread"

abbrev pub all_selectors : List Selector
all_selectors = Words ∷ Spread ∷ []

abbrev pub selector_spelled : List ℕ → Option Selector
selector_spelled bytes = find (λ selector. bytes_eq (selector_name selector) bytes) all_selectors

-- The parts of a line, as the definitions see them.
use Rattle.std.specs.Prelude.{ℕ, List, map}
use Rattle.std.specs.Borrow.{Bor}
use Rattle.std.specs.Option.{option_map}
use Rattle.script_defs.specs.Reading.{Sentence}
use Rattle.script_read.specs.declared.sentence.Sentence as code

abbrev pub bytes_in : Bor (List ℕ) → List ℕ
bytes_in word = word.now

abbrev pub words_in : List (Bor (List ℕ)) → List (List ℕ)
words_in words = map bytes_in words

abbrev pub sentence_in : code.Sentence → Sentence
sentence_in s = record { defines = option_map bytes_in s.defines; word = s.word.now; args = words_in s.args.now }

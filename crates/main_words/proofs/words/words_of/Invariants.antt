-- The first arguments are words so far.
use Rattle.std.proofs.Common.{◌≡◌, take}
use Rattle.std.specs.Prelude.{All, IsUtf8}
use Rattle.main_words.specs.Arguments.{arguments}
use Rattle.main_words.proofs.words.words_of.Given as goal

abbrev pub invariant-loop-arg : goal.invariant-loop-arg
invariant-loop-arg l = (l.words.items ≡ take l.arg-index (arguments l.args)) × All IsUtf8 l.words.items

use Rattle.std.proofs.Common.{◌≡◌, ◌++◌, [], map, filter, length}
use Rattle.row_defs.specs.Pieces.{pieces_from, is_some_bytes, words_of}
use Rattle.dia_text.proofs.split.words.Given as goal

abbrev pub invariant-loop-rest : goal.invariant-loop-rest
invariant-loop-rest l =
    map (λ word. word.now) l.words.items ++ filter is_some_bytes (pieces_from 32 [] l.rest) ≡ words_of l.line

abbrev pub decreases-loop-rest : goal.decreases-loop-rest
decreases-loop-rest l = length l.rest

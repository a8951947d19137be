use Rattle.std.proofs.Common.{◌≡◌, ◌+◌, ◌∷◌, [], false}
use Rattle.row_defs.specs.declared.kind.Kind.TheVariants.{Int}
use Rattle.dia_file.specs.Writers.{IsWriterOf, frames_of}
use Rattle.exchange_tests.proofs.spreading.fill.Given as goal

abbrev pub invariant-loop-n : goal.invariant-loop-n
invariant-loop-n g l = record {
  kinds : l.writer.kinds ≡ Int ∷ [];
  unbroken : l.writer.is_broken ≡ false;
  own : IsWriterOf l.hand.pool l.writer;
  pool : l.hand.pool ≡ l.fn.hand.pool;
  permits : l.hand.permits + frames_of l.writer ≡ l.fn.hand.permits + frames_of l.fn.writer;
}

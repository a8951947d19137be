use Rattle.std.proofs.Common.{◌≡◌, ◌+◌, false}
use Rattle.dia_file.specs.Writers.{IsWriterOf, frames_of}
use Rattle.file_tests.proofs.file.fill_in_turn.Given as goal

abbrev pub invariant-loop-pair : goal.invariant-loop-pair
invariant-loop-pair g l = record {
  kinds : l.writer.kinds ≡ l.fn.writer.kinds;
  unbroken : l.writer.is_broken ≡ false;
  own : IsWriterOf l.hand.pool l.writer;
  pool : l.hand.pool ≡ l.fn.hand.pool;
  permits : l.hand.permits + frames_of l.writer ≡ l.fn.hand.permits + frames_of l.fn.writer;
}

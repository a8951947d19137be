use Rattle.std.proofs.Common.{◌≡◌, ◌+◌}
use Rattle.dia_file.specs.Files.{IsFileOf}
use Rattle.exchange_tests.proofs.spreading.read_in_order.Given as goal

abbrev pub invariant-loop : goal.invariant-loop
invariant-loop g l = record {
  own : IsFileOf l.hand.pool l.reader.file;
  pool : l.hand.pool ≡ l.fn.hand.pool;
  file : l.reader.file ≡ l.fn.reader.file;
  permits : l.hand.permits + l.reader.pinned ≡ l.fn.hand.permits + l.fn.reader.pinned;
}

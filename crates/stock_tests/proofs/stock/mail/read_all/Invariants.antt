use Rattle.std.proofs.Common.{◌≡◌, ◌<◌}
use Rattle.std.specs.Prelude.{All}
use Rattle.std.specs.Vec.Iter.{into_iter_items}
use Rattle.multiplexer.specs.declared.packet.Packet.{Packet}
use Rattle.stock_tests.proofs.stock.mail.read_all.Given as goal

abbrev pub invariant-loop-packet : goal.invariant-loop-packet
invariant-loop-packet g l = record {
  pool : l.hand.pool ≡ l.initial.hand.pool;
  permit : 0 < l.hand.permits;
  left : All (λ (p : Packet). p.block.pool ≡ l.initial.hand.pool) (into_iter_items l.packet-iterator);
}

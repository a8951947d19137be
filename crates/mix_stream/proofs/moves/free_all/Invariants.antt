use Rattle.std.proofs.Common.{◌≡◌, ◌+◌, length}
use Rattle.block_pool.specs.Handles.{AreOfPool, Follows}
use Rattle.mix_stream.specs.Packets.{blocks_in}
use Rattle.mix_stream.proofs.moves.free_all.Given as goal

abbrev pub invariant-loop-packet : goal.invariant-loop-packet
invariant-loop-packet g l = record {
  own : AreOfPool l.hand.pool (blocks_in l.packets.items);
  permits : l.hand.permits ≡ l.fn.hand.permits;
  gone : l.hand.notes.gone + length l.packets.items ≡ l.fn.hand.notes.gone + length l.fn.packets.items;
  made : l.hand.notes.made ≡ l.fn.hand.notes.made;
  follows : Follows l.fn.hand l.hand;
}

abbrev pub decreases-loop-packet : goal.decreases-loop-packet
decreases-loop-packet g l = length l.packets.items

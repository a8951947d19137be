use Rattle.std.proofs.Common.{◌≡◌, ◌+◌, ◌≤◌, ◌++◌, List, length, vec_len}
use Rattle.std.specs.Prelude.{vec_capacity}
use Rattle.std.specs.Vec.Iter.{into_iter_items}
use Rattle.multiplexer.specs.declared.packet.Packet.{Packet}
use Rattle.dealing.specs.Boxes.{IsRaised}
use Rattle.dealing.proofs.merging.merge.Given as goal

abbrev pub invariant-loop-packet : goal.invariant-loop-packet
invariant-loop-packet l = record {
  rest : l.yielded ++ into_iter_items l.packet-iterator ≡ l.fn.more.packets.items;
  raised : (raised : List Packet) × (l.packets.items ≡ l.fn.into.packets.items ++ raised) × IsRaised l.by l.yielded raised;
  count : vec_len l.packets ≤ vec_len l.fn.into.packets + length l.yielded;
  room : vec_len l.fn.into.packets + vec_len l.fn.more.packets ≤ vec_capacity l.packets;
}

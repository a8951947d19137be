use Rattle.std.proofs.Common.{◌≡◌, [], take}
use Rattle.mix_stream.specs.Packets.{bytes_from}
use Rattle.mix_stream.proofs.moves.place_of.Given as goal

abbrev pub invariant-loop-at : goal.invariant-loop-at
invariant-loop-at l = bytes_from l.from (take l.at l.packets.items) ≡ []

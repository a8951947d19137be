use Rattle.std.proofs.Common.{◌≡◌, vec_len}
use Rattle.std.specs.Prelude.{vec_capacity}
use Rattle.dia_file.specs.Cuts.{AreRooms}
use Rattle.dia_file.proofs.split.make_rooms.Given as goal

abbrev pub invariant-loop-room : goal.invariant-loop-room
invariant-loop-room l = record {
  are : AreRooms l.blocks l.rooms.items;
  len : vec_len l.rooms ≡ l._room;
  room : vec_capacity l.rooms ≡ vec_capacity l.initial.rooms;
}

use Rattle.std.proofs.Common.{◌≡◌, ◌+◌, ◌++◌, length, vec_len}
use Rattle.std.specs.Prelude.{vec_capacity, All}
use Rattle.dia_file.specs.Cuts.{AreRooms, rows_of_files, blocks_of_files}
use Rattle.dia_file.specs.Encoding.{encoded}
use Rattle.dia_file.proofs.Splitting.{EvenSoFar}
use Rattle.dia_file.specs.Files.{FileValue}
use Rattle.dia_file.proofs.split.cut_all.Given as goal

abbrev pub invariant-loop-room : goal.invariant-loop-room
invariant-loop-room l = record {
  rows : rows_of_files l.files.items ++ l.file.rows ≡ l.fn.file.rows;
  blocks : blocks_of_files l.files.items ++ l.file.blocks ≡ l.fn.file.blocks;
  kinds : All (λ (one : FileValue). one.kinds ≡ l.fn.file.kinds) l.files.items;
  even : EvenSoFar l.files.items (length (encoded l.file.rows)) (vec_len l.rooms + 1);
  kind : l.file.kinds ≡ l.fn.file.kinds;
  count : vec_len l.files + vec_len l.rooms ≡ vec_len l.fn.rooms;
  rooms : AreRooms (length l.fn.file.blocks) l.rooms.items;
  room : vec_capacity l.files ≡ vec_capacity l.fn.files;
}

abbrev pub decreases-loop-room : goal.decreases-loop-room
decreases-loop-room l = vec_len l.rooms

use Rattle.std.proofs.Common.{◌≡◌, ◌+◌, ◌≤◌, ◌++◌, length, vec_len, vec_capacity}
use Rattle.std.specs.VecDeque.{deque_len}
use Rattle.dia_file.specs.Frames.{blocks_of}
use Rattle.dia_file.proofs.sealed.blocks_in.Given as goal

abbrev pub invariant-loop-front : goal.invariant-loop-front
invariant-loop-front l = record {
  blocks : l.blocks.items ++ blocks_of l.sealed.items ≡ blocks_of l.fn.sealed.items;
  room : vec_len l.blocks + length l.sealed.items ≤ vec_capacity l.blocks;
}

abbrev pub decreases-loop-front : goal.decreases-loop-front
decreases-loop-front l = deque_len l.sealed

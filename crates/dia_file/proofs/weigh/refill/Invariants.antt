use Rattle.std.proofs.Common.{◌≡◌, ◌≤◌, ◌++◌, ◌+◌, ◌-◌, vec_len}
use Rattle.std.specs.VecDeque.{deque_len, deque_capacity}
use Rattle.dia_file.specs.Frames.{blocks_of}
use Rattle.dia_file.specs.Weighing.{marks_of}
use Rattle.dia_file.proofs.weigh.refill.Given as goal

abbrev pub invariant-loop-blocks : goal.invariant-loop-blocks
invariant-loop-blocks l = record {
  blocks : l.blocks.items ++ blocks_of l.sealed.items ≡ l.fn.blocks.items;
  marks : l.marks.items ++ marks_of l.sealed.items ≡ l.fn.marks.items;
  room : l.count ≤ deque_capacity l.sealed;
  most : deque_len l.sealed ≤ l.count;
  some_blocks : l.count ≤ vec_len l.blocks + deque_len l.sealed;
  some_marks : l.count ≤ vec_len l.marks + deque_len l.sealed;
}

abbrev pub decreases-loop-blocks : goal.decreases-loop-blocks
decreases-loop-blocks l = l.count - deque_len l.sealed

use Rattle.std.proofs.Common.{◌≡◌, ◌++◌}
use Rattle.std.specs.VecDeque.{deque_len}
use Rattle.dia_file.specs.Frames.{blocks_of}
use Rattle.dia_file.specs.Weighing.{marks_of}
use Rattle.dia_file.proofs.weigh.strip.Given as goal

abbrev pub invariant-loop-front : goal.invariant-loop-front
invariant-loop-front l = record {
  blocks : l.blocks.items ++ blocks_of l.sealed.items ≡ l.fn.blocks.items ++ blocks_of l.fn.sealed.items;
  marks : l.marks.items ++ marks_of l.sealed.items ≡ l.fn.marks.items ++ marks_of l.fn.sealed.items;
}

abbrev pub decreases-loop-front : goal.decreases-loop-front
decreases-loop-front l = deque_len l.sealed

use Rattle.std.specs.Prelude.{vec_len}
use Rattle.dia_file.specs.Weighing.{IsStack}
use Rattle.dia_file.proofs.weigh.take_all_apart.Given as goal

abbrev pub invariant-loop-file : goal.invariant-loop-file
invariant-loop-file l = IsStack l.files.items l.fn.files.items l.shells.items l.blocks.items l.marks.items

abbrev pub decreases-loop-file : goal.decreases-loop-file
decreases-loop-file l = vec_len l.files

use Rattle.std.specs.Prelude.{vec_len}
use Rattle.dia_file.specs.Weighing.{IsStack}
use Rattle.dia_file.proofs.weigh.put_all_together.Given as goal

abbrev pub invariant-loop-shell : goal.invariant-loop-shell
invariant-loop-shell l = IsStack l.files.items l.fn.apart.value.items l.shells.items l.blocks.items l.marks.items

abbrev pub decreases-loop-shell : goal.decreases-loop-shell
decreases-loop-shell l = vec_len l.shells

use Rattle.std.proofs.Common.{ap, ℕ}
use Rattle.dia_file.specs.declared.weigh.Shell.{Shell}
use Rattle.dia_file.proofs.weigh.take_apart.Goals as goal

pub returns : goal.returns
returns c =
    let f = c.file.inside in
    let shell : ℕ → Shell = λ n. record { kinds = f.kinds; rows = f.rows; bytes = f.bytes; count = n } in
    record {
      inside = f;
      is_file = c.file.invariant;
      value = c.file.view_is;
      shell_is = ap shell c.len-count.ensures;
      blocks_are = c.in_ok-strip.ensures.blocks;
      marks_are = c.in_ok-strip.ensures.marks;
    }

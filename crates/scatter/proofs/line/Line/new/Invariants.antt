use Rattle.std.proofs.Common.{◌≡◌, ◌++◌, length, map, Some, vec_len}
use Rattle.std.specs.Prelude.{vec_capacity}
use Rattle.std.specs.Vec.Iter.{into_iter_items}
use Rattle.dia_file.specs.Files.{FileValue}
use Rattle.scatter.proofs.line.Line.new.Given as goal

abbrev pub invariant-loop-file : goal.invariant-loop-file
invariant-loop-file l = record {
  rest : l.yielded ++ into_iter_items l.file-iterator ≡ l.fn.files.items;
  parts : l.parts.items ≡ map (λ (f : FileValue). Some f) l.yielded;
  count : vec_len l.parts ≡ length l.yielded;
  room : vec_capacity l.parts ≡ vec_capacity l.fn.room;
}

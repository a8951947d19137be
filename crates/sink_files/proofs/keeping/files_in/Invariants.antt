use Rattle.std.proofs.Common.{◌≡◌, ◌++◌, length, map, Some, vec_len}
use Rattle.std.specs.Prelude.{vec_capacity}
use Rattle.std.specs.Vec.Iter.{into_iter_items}
use Rattle.sink_files.proofs.keeping.files_in.Given as goal

abbrev pub invariant-loop-part : goal.invariant-loop-part
invariant-loop-part l = record {
  rest : l.yielded ++ into_iter_items l.part-iterator ≡ l.fn.parts.items;
  files : map (λ file. Some file) l.files.items ≡ l.yielded;
  count : vec_len l.files ≡ length l.yielded;
  room : vec_capacity l.files ≡ vec_capacity l.fn.files;
}

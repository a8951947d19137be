use Rattle.std.proofs.Common.{◌≡◌, ◌+◌, take}
use Rattle.std.specs.Prelude.{All, IsSome}
use Rattle.std.specs.List.{sum_by}
use Rattle.row_defs.specs.Limits.{most_rows}
use Rattle.sink_files.specs.Ending.{part_rows}
use Rattle.sink_files.proofs.keeping.whole.Given as goal

abbrev pub invariant-loop-part : goal.invariant-loop-part
invariant-loop-part l = record {
  room : l.room + sum_by part_rows (take l.part-index l.parts) ≡ most_rows;
  there : All IsSome (take l.part-index l.parts);
}

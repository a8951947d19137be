-- Where the name did not come so far, what it stands for is looked up in the rest of the files.
use Rattle.std.proofs.Common.{◌≡◌, drop}
use Rattle.dia_edge.specs.Files.{files_of, held_under}
use Rattle.dia_edge.proofs.mem_shelf.place_of.Given as goal

abbrev pub invariant-loop-place : goal.invariant-loop-place
invariant-loop-place l = held_under (files_of l.files) l.name ≡ held_under (files_of (drop l.place l.files)) l.name

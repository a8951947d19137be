use Rattle.std.proofs.Common.{◌≡◌, ◌≤◌, ◌-◌, length, take}
use Rattle.dia_edge.specs.Shelves.{GivesPrefix}
use Rattle.dia_lines.specs.Inputs.{Stays}
use Rattle.thrill_top.proofs.read.fill_buffer.Given as goal

abbrev pub invariant-loop-total : goal.invariant-loop-total
invariant-loop-total g l = record {
  within : l.total ≤ length l.buffer;
  prefix : GivesPrefix (g.N.Shelf.left l.fn.shelf) (take l.total l.buffer) (g.N.Shelf.left l.shelf);
  stays : Stays g.N.Shelf l.fn.shelf l.shelf;
  asked : g.N.Shelf.asked l.shelf ≡ g.N.Shelf.asked l.fn.shelf;
}

abbrev pub decreases-loop-total : goal.decreases-loop-total
decreases-loop-total g l = length l.initial.buffer - l.total

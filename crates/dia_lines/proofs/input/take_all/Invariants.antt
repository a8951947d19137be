use Rattle.std.proofs.Common.{◌≡◌, ◌≤◌, ◌-◌}
use Rattle.dia_lines.specs.Inputs.{Stays, IsReading}
use Rattle.dia_lines.proofs.input.take_all.Given as goal

abbrev pub invariant-loop-total : goal.invariant-loop-total
invariant-loop-total g l = record {
  reading : IsReading g.T.LineTaker (g.N.Shelf.left l.fn.shelf) l.fn.taker l.taker l.cutter l.total (g.N.Shelf.left l.shelf);
  within : l.total ≤ 4294967296;
  few : l.cutter.ended ≤ l.total;
  stays : Stays g.N.Shelf l.fn.shelf l.shelf;
  asked : g.N.Shelf.asked l.shelf ≡ g.N.Shelf.asked l.fn.shelf;
  count : g.T.LineTaker.count l.taker ≡ l.cutter.ended;
  serves : g.T.LineTaker.serves l.taker l.desk;
  keeps : g.T.LineTaker.keeps l.fn.taker l.fn.desk l.taker l.desk;
  follows : g.T.LineTaker.follows l.fn.desk l.desk;
}

abbrev pub decreases-loop-total : goal.decreases-loop-total
decreases-loop-total g l = 4294967297 - l.total

use Rattle.std.proofs.Common.{◌≡◌, ◌≤◌, ◌+◌, length}
use Rattle.dia_lines.specs.Taking.{Consumes}
use Rattle.dia_lines.proofs.cutter.Cutter.take.Given as goal

abbrev pub invariant-loop-rest : goal.invariant-loop-rest
invariant-loop-rest g l = record {
  consumed : Consumes g.T.LineTaker l.fn.taker l.fn.self l.taker l.self l.piece l.rest;
  few : l.self.ended + length l.rest ≤ l.fn.self.ended + length l.piece;
  count : g.T.LineTaker.count l.taker ≡ l.self.ended;
  serves : g.T.LineTaker.serves l.taker l.desk;
  keeps : g.T.LineTaker.keeps l.fn.taker l.fn.desk l.taker l.desk;
  follows : g.T.LineTaker.follows l.fn.desk l.desk;
}

abbrev pub decreases-loop-rest : goal.decreases-loop-rest
decreases-loop-rest g l = length l.rest

use Rattle.std.proofs.Common.{◌+◌, ◌≤◌}
use Rattle.arrivals.specs.Boxes.{HasLeft, bytes_left}
use Rattle.arrivals.specs.Steps.{IsPinned}
use Rattle.arrivals.specs.Receives.{IsReceived, CanReceive, Goes}
use Rattle.arrivals.proofs.pushing.push_rows.Given as goal

abbrev pub invariant-loop-row : goal.invariant-loop-row
invariant-loop-row g l = record {
  received : IsReceived g.S.RowSink l.fn.hand.pool l.fn.reader.kinds (HasLeft l.fn.reader) l.fn.sink l.reader l.sink;
  goes : Goes g.S.RowSink l.fn.reader l.fn.sink l.fn.hand l.reader l.sink l.hand;
  can : CanReceive g.S.RowSink l.reader l.sink l.hand;
  pinned_is : IsPinned l.pinned l.reader;
  count : bytes_left l.reader + l._row ≤ bytes_left l.fn.reader;
}

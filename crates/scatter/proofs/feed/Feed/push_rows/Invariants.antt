use Rattle.std.proofs.Common.{◌≡◌, ◌+◌, length}
use Rattle.scatter.specs.Sends.{IsSent, CanSend, Goes}
use Rattle.scatter.proofs.feed.Feed.push_rows.Given as goal

abbrev pub invariant-loop-row : goal.invariant-loop-row
invariant-loop-row g l = record {
  sent : IsSent g.S.RowSink l.fn.hand.pool l.fn.self l.fn.sink l.self l.sink;
  goes : Goes g.S.RowSink l.fn.self l.fn.sink l.fn.hand l.self l.sink l.hand;
  can : CanSend g.S.RowSink l.self l.sink l.hand;
  count : length l.fn.self.left ≡ l._row + length l.self.left;
}

use Rattle.std.proofs.Common.{◌≡◌, ◌+◌, [], true, false, length, if◌then◌else◌}
use Rattle.scatter.specs.Sends.{IsSent, CanSend, Goes}
use Rattle.feed_print.proofs.pushing.push_all.Given as goal

abbrev pub invariant-loop-more : goal.invariant-loop-more
invariant-loop-more g l = record {
  sent : IsSent g.S.RowSink l.fn.hand.pool l.fn.feed l.fn.sink l.feed l.sink;
  goes : Goes g.S.RowSink l.fn.feed l.fn.sink l.fn.hand l.feed l.sink l.hand;
  can : l.more ≡ true → CanSend g.S.RowSink l.feed l.sink l.hand;
  end : l.more ≡ false → l.feed.left ≡ [];
}

abbrev pub decreases-loop-more : goal.decreases-loop-more
decreases-loop-more g l = length l.feed.left + (if l.more then 1 else 0)

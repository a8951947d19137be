use Rattle.std.proofs.Common.{◌≡◌, ◌≤◌, None, vec_capacity}
use lib.ListN.{replicate}
use Rattle.exchange.proofs.scatter.no_frames.Given as goal

abbrev pub invariant-loop-worker : goal.invariant-loop-worker
invariant-loop-worker l = (l.frames.items ≡ replicate l._worker None) × (l.workers ≤ vec_capacity l.frames)

use Rattle.std.proofs.Common.{◌≡◌, ◌≤◌, vec_len}
use Rattle.std.specs.Prelude.{All, vec_capacity}
use Rattle.feed_actions.specs.Adding.{IsFreshSummer}
use Rattle.feed_actions.proofs.adding.summers_for.Given as goal

abbrev pub invariant-loop-rank : goal.invariant-loop-rank
invariant-loop-rank g l = record {
  len : vec_len l.summers ≡ l._rank;
  fresh : All (IsFreshSummer l.fn.column) l.summers.items;
  room : l.fn.count ≤ vec_capacity l.summers;
}

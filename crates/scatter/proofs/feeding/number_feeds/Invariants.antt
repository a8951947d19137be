use Rattle.std.proofs.Common.{◌≡◌, ◌≤◌, ◌++◌, List, length, map, vec_len}
use Rattle.std.specs.Prelude.{vec_capacity}
use Rattle.std.specs.Vec.Iter.{into_iter_items}
use Rattle.row_defs.specs.LocalOps.{LocalOp}
use Rattle.collective.specs.Shares.{shares_of}
use Rattle.scatter.specs.Feeds.{number_rows, number_feed}
use Rattle.scatter.specs.Lines.{AreChainsOf}
use Rattle.scatter.proofs.feeding.number_feeds.Given as goal

abbrev pub invariant-loop-chain : goal.invariant-loop-chain
invariant-loop-chain l = record {
  rest : l.yielded ++ into_iter_items l.chain-iterator ≡ l.fn.chains.items;
  rank : l.rank ≡ length l.yielded;
  feeds : (ops : List LocalOp) → AreChainsOf ops l.fn.chains.items → l.feeds.items ≡ map (number_feed ops) (shares_of (number_rows 0 l.fn.rows) (vec_len l.fn.chains) (length l.yielded));
  count : vec_len l.feeds ≡ length l.yielded;
  room : vec_len l.fn.chains ≤ vec_capacity l.feeds;
}

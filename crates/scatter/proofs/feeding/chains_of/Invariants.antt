use Rattle.std.proofs.Common.{◌≡◌, ◌≤◌, vec_len}
use Rattle.std.specs.Prelude.{vec_capacity}
use Rattle.lop_chain.specs.Ops.{ops_in}
use Rattle.scatter.specs.Lines.{AreChainsOf}
use Rattle.scatter.proofs.feeding.chains_of.Given as goal

abbrev pub invariant-loop-rank : goal.invariant-loop-rank
invariant-loop-rank l = record {
  len : vec_len l.chains ≡ l._rank;
  ops : AreChainsOf (ops_in l.ops) l.chains.items;
  room : l.fn.workers ≤ vec_capacity l.chains;
}

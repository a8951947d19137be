use Rattle.std.proofs.Common.{◌≡◌, ◌≤◌, None}
use Rattle.std.specs.Prelude.{vec_capacity, vec_len, replicate}
use Rattle.scatter.proofs.line.lent_parts.Given as goal

abbrev pub invariant-loop-rank : goal.invariant-loop-rank
invariant-loop-rank l = record {
  parts : l.parts.items ≡ replicate l._rank None;
  len : vec_len l.parts ≡ l._rank;
  room : l.fn.count ≤ vec_capacity l.parts;
}

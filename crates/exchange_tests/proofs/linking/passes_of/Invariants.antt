use Rattle.std.proofs.Common.{◌≡◌, length, vec_len}
use Rattle.std.specs.Prelude.{vec_capacity, All}
use Rattle.block_pool.specs.Workers.{new_pool}
use Rattle.exchange_tests.proofs.linking.passes_of.Given as goal

abbrev pub invariant-loop-hand : goal.invariant-loop-hand
invariant-loop-hand l = record {
  count : vec_len l.passes ≡ length l.yielded;
  room : vec_capacity l.passes ≡ vec_capacity l.initial.passes;
  each : All (λ pass. pass.pool ≡ new_pool l.pool 28 4096) l.passes.items;
}

use Rattle.std.proofs.Common.{◌≡◌, length, vec_len}
use Rattle.std.specs.Prelude.{vec_capacity}
use Rattle.block_pool.specs.Workers.{new_pool}
use Rattle.exchange_tests.specs.Linked.{AreHands}
use Rattle.exchange_tests.proofs.linking.hands_of.Given as goal

abbrev pub invariant-loop-pass : goal.invariant-loop-pass
invariant-loop-pass l = record {
  count : vec_len l.hands ≡ length l.yielded;
  room : vec_capacity l.hands ≡ vec_capacity l.initial.hands;
  each : AreHands (new_pool l.pool 28 4096) l.hands.items;
}

use Rattle.std.proofs.Common.{◌≡◌, ◌++◌, length, map}
use Rattle.std.specs.Prelude.{vec_len}
use Rattle.std.specs.List.{All}
use Rattle.block_pool.specs.Workers.{IsReady}
use Rattle.file_tests.specs.Workers.{IsOf, pool_of_five}
use Rattle.file_tests.proofs.mail.exchanging.pair_up.Given as goal

abbrev pub invariant-loop-send : goal.invariant-loop-send
invariant-loop-send l = record {
  all : l.fn.sends.items ≡ l.yielded ++ l.send-iterator.rest.items;
  sends : map (λ w. w.send) l.workers.items ≡ l.yielded;
  recvs : l.fn.recvs.items ≡ map (λ w. w.recv) l.workers.items ++ l.rest.rest.items;
  shares : vec_len l.shares ≡ length l.send-iterator.rest.items;
  ready : All (IsReady (pool_of_five l.fn.pool)) l.shares.items;
  own : All (IsOf (pool_of_five l.fn.pool)) l.workers.items;
}

use Rattle.std.proofs.Common.{◌≡◌, ◌++◌, map}
use Rattle.file_tests.proofs.mail.exchanging.part.Given as goal

abbrev pub invariant-loop-worker : goal.invariant-loop-worker
invariant-loop-worker l = record {
  all : l.fn.workers.items ≡ l.yielded ++ l.worker-iterator.rest.items;
  sends : l.sends.items ≡ map (λ w. w.send) l.yielded;
  recvs : l.recvs.items ≡ map (λ w. w.recv) l.yielded;
}

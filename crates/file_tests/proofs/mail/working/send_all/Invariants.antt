use Rattle.std.proofs.Common.{◌≡◌, ℕ, ◌≤◌, [], length}
use Rattle.std.specs.Prelude.{slice_index_or}
use Rattle.file_tests.proofs.mail.working.send_all.Given as goal

abbrev pub invariant-loop-number : goal.invariant-loop-number
invariant-loop-number g l = record {
  pool : l.hand.pool ≡ l.fn.hand.pool;
  permits : l.hand.permits ≡ l.fn.hand.permits;
  mail : l.send.mail ≡ l.fn.send.mail;
  sender : l.send.sender ≡ l.fn.send.sender;
  room : (j : ℕ) → length (slice_index_or l.send.sent j []) ≤ l.number;
  recv_mail : l.recv.mail ≡ l.fn.recv.mail;
  rank : l.recv.rank ≡ l.fn.recv.rank;
}

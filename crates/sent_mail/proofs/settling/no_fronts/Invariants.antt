use Rattle.std.proofs.Common.{◌≡◌, ◌≤◌, length, take, vec_len}
use Rattle.std.specs.Prelude.{vec_capacity}
use Rattle.std.specs.List.{AllZip}
use Rattle.scatter.specs.Carrying.{IsFrontOf}
use Rattle.sent_mail.proofs.settling.no_fronts.Given as goal

abbrev pub invariant-loop-recv : goal.invariant-loop-recv
invariant-loop-recv l = record {
  fronts : AllZip IsFrontOf l.fronts.items (take l._recv-index l.recvs);
  len : vec_len l.fronts ≡ l._recv-index;
  room : length l.recvs ≤ vec_capacity l.fronts;
}

use Rattle.std.proofs.Common.{◌≡◌, ◌+◌, ◌≤◌, length, take, sum, vec_len}
use Rattle.std.specs.Prelude.{vec_capacity}
use Rattle.dealing.proofs.Made.{AreMade}
use Rattle.dealing.proofs.operand.deal.Given as goal

abbrev pub invariant-loop-count : goal.invariant-loop-count
invariant-loop-count g l = record {
  count : vec_len l.routes ≡ l.count-index;
  room : length l.counts ≤ vec_capacity l.routes;
  from_is : l.from ≡ l.before + sum (take l.count-index l.counts);
  made : AreMade l.total l.workers l.before (take l.count-index l.counts) l.routes.items;
}

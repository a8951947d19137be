use Rattle.std.proofs.Common.{◌≡◌, ◌≤◌, [], vec_len}
use Rattle.std.specs.Prelude.{All, vec_capacity}
use Rattle.multiplexer.specs.declared.inbox.Inbox.{Inbox}
use Rattle.dealing.proofs.round.empty_boxes.Given as goal

abbrev pub invariant-loop-rank : goal.invariant-loop-rank
invariant-loop-rank l = record {
  count : vec_len l.boxes ≡ l._rank;
  room : l.count ≤ vec_capacity l.boxes;
  none : All (λ (x : Inbox). x.packets.items ≡ []) l.boxes.items;
}

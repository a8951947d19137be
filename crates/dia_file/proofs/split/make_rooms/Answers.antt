use Rattle.std.proofs.Common.{◌≡◌, ◌≤◌, List, [], All, sym, subst, ◌∙◌, ap, ◌+◌, ℕ}
use Rattle.std.specs.VecDeque.{deque_len, deque_capacity}
use Rattle.std.specs.declared.collections.VecDeque.{VecDeque}
use Rattle.std.specs.declared.alloc.Global.{Global}
use Rattle.std.proofs.lemmas.List.Elements.{All-push}
use Rattle.dia_file.specs.declared.sealed.Sealed.{Sealed}
use Rattle.dia_file.proofs.split.make_rooms.Goals as goal

pub loop-room-preserved : goal.loop-room-preserved
loop-room-preserved c =
    let i = c.loop-room.invariant in
    let room = c.in_ok-with_capacity.ensures in
    let P : VecDeque Sealed Global → Type 0 = λ q. (q.items ≡ []) × (deque_len q ≡ 0) × (c.args.blocks ≤ deque_capacity q) in
    record {
      are = subst (λ (qs : List (VecDeque Sealed Global)). All P qs) (sym c.push_reserved.ensures.items) (All-push P c.loop-room.rooms.items c.in_ok-with_capacity.field-0 i.are (room.items, room.len, room.capacity));
      len = c.push_reserved.ensures.len ∙ ap (λ (n : ℕ). n + 1) i.len;
      room = c.push_reserved.ensures.capacity ∙ i.room;
    }

use Rattle.std.proofs.Common.{◌≡◌, ◌≤◌, [], length, ◌∙◌, arith, ℕ, ◌+◌, ◌/◌, subst, sym, vec_len, rules}
use Rattle.std.specs.VecDeque.{deque_len, deque_capacity}
use Rattle.std.specs.declared.collections.VecDeque.{VecDeque}
use Rattle.std.specs.declared.alloc.Global.{Global}
use Rattle.std.proofs.lemmas.List.Elements.{All-pop}
use Rattle.dia_file.specs.declared.sealed.Sealed.{Sealed}
use Rattle.dia_file.specs.Files.{FileValue}
use Rattle.dia_file.proofs.Splitting.{rows_so_far, blocks_so_far, one_more, even_more, even_all, cut_bytes, share_within, EvenSoFar}
use Rattle.dia_file.specs.Encoding.{encoded}
use Rattle.dia_file.specs.Cuts.{HasShare}
use Rattle.dia_file.proofs.split.cut_all.Goals as goal

pub loop-room-preserved : goal.loop-room-preserved
loop-room-preserved c =
    let i = c.loop-room.invariant in
    let cut = c.cut_off.ensures in
    let push = c.push_reserved.ensures in
    let P : VecDeque Sealed Global → Type 0 = λ q. (q.items ≡ []) × (deque_len q ≡ 0) × (length c.args.file.blocks ≤ deque_capacity q) in
    let pop = All-pop P c.loop-room.rooms.items c.pop.new.self.items c.pop.result c.pop.ensures.items i.rooms in
    let P : ℕ → ℕ → Type 0 = λ a b. HasShare (a / b) c.cut_off.result in
    let few : P (length (encoded c.loop-room.file.rows)) (vec_len c.loop-room.rooms + 1) =
    let left = c.len.ensures in
    let one = c.in-Some.ensures.cases in
    let all = length (encoded c.loop-room.file.rows) in
    let within : c.bytes.result / (c.len.result + 2) ≤ all = subst (λ n. n / (c.len.result + 2) ≤ all) (sym c.bytes.ensures) (share_within all (c.len.result + 2)) in
    let parts : c.len.result + 2 ≡ vec_len c.loop-room.rooms + 1 = omega (arith, left, one) in
    subst (λ a. P a (vec_len c.loop-room.rooms + 1)) c.bytes.ensures (subst (λ b. P c.bytes.result b) parts (cut.enough within, cut.few)) in
    record {
      rows = rows_so_far c.loop-room.files.items c.push_reserved.new.self.items c.cut_off.result _ _ _ push.items cut.rows i.rows;
      blocks = blocks_so_far c.loop-room.files.items c.push_reserved.new.self.items c.cut_off.result _ _ _ push.items cut.blocks i.blocks;
      kinds = one_more (λ (f : FileValue). f.kinds ≡ c.args.file.kinds) c.loop-room.files.items c.push_reserved.new.self.items c.cut_off.result push.items i.kinds (cut.kinds.0 ∙ i.kind);
      even = even_more c.loop-room.files.items c.push_reserved.new.self.items c.cut_off.result _ _ _ _ i.even push.items (cut_bytes c.cut_off.result.rows c.cut_off.new.self.rows c.loop-room.file.rows cut.rows) (let one = c.in-Some.ensures.cases in omega (arith, one)) few;
      kind = cut.kinds.1 ∙ i.kind;
      count = let one = c.in-Some.ensures.cases in omega (arith, push.len, one, i.count);
      rooms = pop.0;
      room = push.capacity ∙ i.room;
    }

pub returns-clause-kinds : goal.returns-clause-kinds
returns-clause-kinds c =
    let i = c.loop-room.invariant in
    one_more (λ (f : FileValue). f.kinds ≡ c.args.file.kinds) c.loop-room.files.items c.push_reserved-2.new.self.items c.loop-room.file c.push_reserved-2.ensures.items i.kinds i.kind

pub returns-clause-even : goal.returns-clause-even
returns-clause-even c =
    let i = c.loop-room.invariant in
    even_all c.loop-room.files.items c.push_reserved-2.new.self.items c.loop-room.file (let none : vec_len c.loop-room.rooms ≡ 0 = search rules in subst (λ n. EvenSoFar c.loop-room.files.items (length (encoded c.loop-room.file.rows)) (n + 1)) none i.even) c.push_reserved-2.ensures.items

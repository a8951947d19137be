use Rattle.std.proofs.Common.{rules, ◌≡◌, ◌+◌, ◌^◌, ◌<◌, ◌≤◌, ◌++◌, ◌∷◌, [], List, vec_len, arith, refl, ap, ◌∙◌, append_assoc}
use Rattle.std.specs.Vec.Iter.{into_iter_items}
use Rattle.std.proofs.lemmas.Grind.{common_steps}
use Rattle.lent_step.proofs.Lists.{yield_more, one_longer}
use Rattle.multiplexer.specs.declared.packet.Packet.{Packet}
use Rattle.dealing.proofs.Raised.{raised_more, raised_less}
use Rattle.dealing.proofs.merging.merge.Goals as goal

pub loop-packet-preserved-in-Some-checked_add : goal.loop-packet-preserved-in-Some-checked_add
loop-packet-preserved-in-Some-checked_add c =
    let i = c.loop-packet.invariant in
    let p = c.in-Some.packet in
    let q : Packet = record { from = c.in-Some-checked_add.from; seq = p.seq; block = p.block } in
    let step : into_iter_items c.loop-packet.packet-iterator ≡ p ∷ into_iter_items c.next.new.self = search rules in
    let from_is : q.from ≡ p.from + c.args.by = search rules in
    let few : q.from < 2 ^ 32 = search rules in
    let more = one_longer c.loop-packet.yielded p in
    let longer : vec_len c.push_reserved.new.self ≡ vec_len c.loop-packet.packets + 1 = grind (arith, common_steps) in
    let count = i.count in
    let r = i.raised in
    record {
      rest = yield_more c.loop-packet.yielded _ _ c.args.more.packets.items p step i.rest;
      raised = (r.0 ++ q ∷ [], c.push_reserved.ensures.items ∙ ap (λ (l : List Packet). l ++ q ∷ []) r.1 ∙ append_assoc c.args.into.packets.items r.0 (q ∷ []), raised_more c.args.by c.loop-packet.yielded r.0 p r.2 q from_is few refl);
      count = omega (arith, count, more, longer);
      room = search rules;
    }

pub loop-packet-preserved : goal.loop-packet-preserved
loop-packet-preserved c =
    let i = c.loop-packet.invariant in
    let p = c.in-Some.packet in
    let step : into_iter_items c.loop-packet.packet-iterator ≡ p ∷ into_iter_items c.next.new.self = search rules in
    let many : 2 ^ 32 ≤ p.from + c.args.by = search rules in
    let more = one_longer c.loop-packet.yielded p in
    let count = i.count in
    let r = i.raised in
    record {
      rest = yield_more c.loop-packet.yielded _ _ c.args.more.packets.items p step i.rest;
      raised = (r.0, r.1, raised_less c.args.by c.loop-packet.yielded r.0 p r.2 many);
      count = omega (arith, count, more);
      room = search rules;
    }

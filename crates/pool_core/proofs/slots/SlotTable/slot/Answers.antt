use Rattle.std.proofs.Common.{◌≡◌, ◌<◌, ◌∙◌, ℕ, length, Some, None, ap, sym, arith}
use Rattle.std.proofs.lemmas.List.{get_or_default}
use Rattle.pool_core.specs.Slots.{Assigned, slot_of}
use Rattle.pool_core.proofs.Slotting.{if_slot}
use Rattle.pool_core.proofs.slots.SlotTable.slot.Goals as goal

pub returns-clause-own : goal.returns-clause-own
returns-clause-own c =
    let it = c.self.inside in
    let known : c.args.id < length it.by_id.items = omega (arith, c.requires.known, ap (λ (a : Assigned). length a.by_id) c.self.view_is) in
    if_slot c.index.result.now (λ slot. (other : ℕ) → slot_of c.args.self.now.by_id other ≡ Some slot → other ≡ c.args.id) (λ slot is other there.
    let own : slot_of it.by_id.items other ≡ Some slot = ap (λ (a : Assigned). slot_of a.by_id other) c.self.view_is ∙ there in
    let here : slot_of it.by_id.items c.args.id ≡ Some slot = sym (c.index.ensures ∙ get_or_default it.by_id.items c.args.id c.index.result.now None known) ∙ is in
    c.self.invariant.apart other c.args.id slot own here)

use Rattle.std.proofs.Common.{◌≡◌, ◌<◌, length, None, ap, ◌∙◌, arith}
use Rattle.pool_core.specs.Slots.{Assigned, slot_of}
use Rattle.pool_core.proofs.Slotting.{assigned}
use Rattle.pool_core.proofs.slots.SlotTable.assign.Goals as goal

pub invariant_of-self : goal.invariant_of-self
invariant_of-self c =
    let it = c.self.inside in
    let known : c.args.id < length it.by_id.items = omega (arith, c.requires.known, ap (λ (a : Assigned). length a.by_id) c.self.view_is) in
    let none : slot_of it.by_id.items c.args.id ≡ None = ap (λ (a : Assigned). slot_of a.by_id c.args.id) c.self.view_is ∙ c.requires.none in
    assigned it.by_id.items it.numbers c.take-slot.new.self c.args.id c.take-slot.result known none c.take-slot.ensures.gives c.self.invariant

use Rattle.std.proofs.Common.{◌≡◌, ◌<◌, length, Some, None, ap, ◌∙◌, sym, arith}
use Rattle.std.proofs.lemmas.List.{get_or_default}
use Rattle.pool_core.specs.Slots.{Assigned, slot_of}
use Rattle.pool_core.proofs.Slotting.{released}
use Rattle.pool_core.proofs.slots.SlotTable.release.Goals as goal

pub invariant_of-self : goal.invariant_of-self
invariant_of-self c =
    let it = c.self.inside in
    let known : c.args.id < length it.by_id.items = omega (arith, c.requires.known, ap (λ (a : Assigned). length a.by_id) c.self.view_is) in
    let own : slot_of it.by_id.items c.args.id ≡ Some c.in-Some.slot =
    sym (c.index.ensures ∙ get_or_default it.by_id.items c.args.id c.index.result.now None known) ∙ c.in-Some.is in
    released it.by_id.items it.numbers c.give.new.self c.args.id c.in-Some.slot known own c.give.ensures c.self.invariant

use Rattle.std.proofs.Common.{sym, subst}
use Rattle.pool_core.specs.Slots.{IsAssigned}
use Rattle.pool_core.proofs.Slotting.{pushed}
use Rattle.pool_core.proofs.slots.SlotTable.push_id.Goals as goal

pub invariant_of-self : goal.invariant_of-self
invariant_of-self c = let it = c.self.inside in subst (λ by_id. IsAssigned by_id it.numbers) (sym c.push_reserved.ensures.items) (pushed it.by_id.items it.numbers c.self.invariant)

use Rattle.std.proofs.Common.{◌≤◌, subst, arith}
use Rattle.pool_defs.specs.Pool.{slots_in_use}
use Rattle.pool_core.specs.Tables.{Held, machine_of}
use Rattle.pool_core.proofs.Slotting.{used_within}
use Rattle.pool_core.proofs.table.Table.slots_given.Goals as goal

pub returns-clause-used : goal.returns-clause-used
returns-clause-used c =
    let it = c.self.inside in
    let pool = machine_of it.frames it.free.items it.written it.blocks.items in
    let within = used_within pool it.slots.by_id c.self.invariant.0.spilled in
    subst (λ (held : Held). slots_in_use held.pool ≤ c.given.result) c.self.view_is (omega (arith, within, c.given.ensures.had))

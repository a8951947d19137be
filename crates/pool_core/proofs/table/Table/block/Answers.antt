use Rattle.std.proofs.Common.{◌≡◌, ◌<◌, ℕ, length, get_or, Some, None, ap, ◌∙◌, sym, subst}
use Rattle.std.specs.Option.{option_map, IsSome}
use Rattle.std.proofs.lemmas.List.{get_or_default}
use Rattle.pool_defs.specs.declared.block.Block.{Block}
use Rattle.pool_defs.specs.declared.block.Place.TheVariants.{Slot}
use Rattle.pool_defs.specs.Pool.{block_of}
use Rattle.pool_defs.proofs.Blocks.{place_at}
use Rattle.pool_core.specs.Slots.{slot_of}
use Rattle.pool_core.specs.Tables.{Held}
use Rattle.pool_core.proofs.Sound.{live_below}
use Rattle.pool_core.proofs.table.Table.block.Goals as goal

pub returns-clause-own : goal.returns-clause-own
returns-clause-own c = λ slot is.
    let it = c.self.inside in
    let id = c.args.id in
    let live = subst (λ (held : Held). IsSome (block_of held.pool id)) (sym c.self.view_is) c.requires.live in
    let known : id < length it.blocks.items = live_below it.blocks.items id live in
    let here : get_or it.blocks.items id None ≡ Some c.unwrap.result = sym (c.index.ensures ∙ get_or_default it.blocks.items id c.index.result.now None known) ∙ c.unwrap.ensures in
    let at : place_at it.blocks.items id ≡ Some (Slot slot) = ap (λ it. option_map (λ (b : Block ℕ). b.place) it) here ∙ ap Some is in
    ap (λ (held : Held). slot_of held.slots id) (sym c.self.view_is) ∙ c.self.invariant.0.spilled id slot at

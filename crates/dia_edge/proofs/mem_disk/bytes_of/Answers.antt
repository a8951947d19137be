use Rattle.std.proofs.Common.{sym, ◌∙◌, ap}
use Rattle.dia_edge.specs.Slots.{pairs_of}
use Rattle.dia_edge.proofs.SlotLemmas.{found_held, not_found}
use Rattle.dia_edge.proofs.mem_disk.bytes_of.Goals as goal

pub returns-in-Ok : goal.returns-in-Ok
returns-in-Ok c =
    let there = c.in-Ok.ensures in
    c.deref.ensures.value
    ∙ ap (λ one. one.bytes.items) (sym c.index-held-place.is)
    ∙ sym (found_held c.args.held.now c.in-Ok.place c.args.slot c.index-held-place.result c.requires there.0 there.1
    c.index-held-place.is)

pub returns-in-Err : goal.returns-in-Err
returns-in-Err c =
    let absent = c.in-Err.ensures in
    sym (not_found (pairs_of c.args.held.now) c.in-Err.field-0 c.args.slot absent.1 absent.2)

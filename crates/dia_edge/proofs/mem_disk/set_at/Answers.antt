use Rattle.dia_edge.specs.Slots.{pairs_of}
use Rattle.dia_edge.proofs.SlotLemmas.{set_puts, pairs-set}
use Rattle.dia_edge.proofs.mem_disk.set_at.Goals as goal

pub returns : goal.returns
returns c =
    rw pairs-set
    (set_puts (pairs_of c.args.held.now.items) c.args.place c.args.slot c.args.bytes.items c.requires.ascending
    c.requires.there.0 c.requires.there.1)

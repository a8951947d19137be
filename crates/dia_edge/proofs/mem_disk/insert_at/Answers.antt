use Rattle.dia_edge.specs.Slots.{pairs_of}
use Rattle.dia_edge.proofs.SlotLemmas.{insert_puts, pairs-insert}
use Rattle.dia_edge.proofs.mem_disk.insert_at.Goals as goal

pub returns-clause-ok : goal.returns-clause-ok
returns-clause-ok c =
    rw (c.in_ok-insert.ensures.items, pairs-insert)
    (insert_puts (pairs_of c.args.held.now.items) c.args.place c.args.slot c.args.bytes.items
    c.requires.ascending c.requires.there.0 c.requires.there.1 c.requires.there.2)

use Rattle.std.proofs.Common.{rules}
use Rattle.std.proofs.lemmas.List.Sorted.{answers_always}
use Rattle.dia_edge.proofs.SlotLemmas.{place_by_key, numbers_of}
use Rattle.dia_edge.proofs.mem_disk.place_of.Goals as goal

pub returns : goal.returns
returns c =
    rw (numbers_of c.args.held.now)
    (place_by_key (λ held. held.slot) c.args.held.now c.args.slot c.binary_search_by_key.result
    (c.binary_search_by_key.ensures.position (λ held. held.slot) (answers_always _ _ _ (λ f a r g called. search rules)))
    c.binary_search_by_key.ensures.bound
    (rw numbers_of at c.requires))

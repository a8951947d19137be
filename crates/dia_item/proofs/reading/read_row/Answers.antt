use Rattle.dia_item.proofs.RowLemmas.{prefix_is_row}
use Rattle.dia_item.proofs.LawLemmas.{prefix_once}
use Rattle.dia_item.proofs.TestLemmas.{test_of_row}
use Rattle.dia_item.proofs.reading.read_row.Goals as goal

pub invariant_of-result : goal.invariant_of-result
invariant_of-result c = record { is_row = rw (c.split_at.ensures.front, ← c.list.ensures.list) (test_of_row _ _ _ c.in-Some.ensures.found) }

pub returns-clause-found : goal.returns-clause-found
returns-clause-found c = rw (c.split_at.ensures.front, ← c.list.ensures.list) (prefix_is_row _ _ _ c.in-Some.ensures.found)

pub returns-clause-only : goal.returns-clause-only
returns-clause-only c =
    rw (c.split_at.ensures.front, ← c.list.ensures.list) (λ row n n_in h. prefix_once _ _ _ _ _ _ n_in c.in-Some.ensures.len h (prefix_is_row _ _ _ c.in-Some.ensures.found))

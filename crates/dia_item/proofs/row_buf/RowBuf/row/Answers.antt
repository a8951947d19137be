use Rattle.dia_item.proofs.TestLemmas.{test_of_row}
use Rattle.dia_item.proofs.row_buf.RowBuf.row.Goals as goal

pub invariant_of-result : goal.invariant_of-result
invariant_of-result c = record { is_row = rw c.as_slice.ensures.value (test_of_row _ _ _ (rw c.in-Some.is at c.self.invariant.is)) }

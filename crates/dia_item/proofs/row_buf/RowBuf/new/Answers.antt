use Rattle.std.proofs.Common.{refl, None}
use Rattle.dia_item.proofs.BufLemmas.{empty_row, empty_room}
use Rattle.dia_item.proofs.row_buf.RowBuf.new.Goals as goal

pub invariant_of-result : goal.invariant_of-result
invariant_of-result c = empty_room _ refl c.in_ok-with_capacity.ensures.items c.in_ok-with_capacity.ensures.capacity

pub returns : goal.returns
returns c = empty_row (record { kinds = None; bytes = c.in_ok-with_capacity.field-0 }) refl

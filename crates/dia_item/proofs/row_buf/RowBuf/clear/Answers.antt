use Rattle.std.proofs.Common.{arith, refl, None}
use Rattle.dia_item.proofs.BufLemmas.{empty_row, empty_room}
use Rattle.dia_item.proofs.row_buf.RowBuf.clear.Goals as goal

pub invariant_of-self : goal.invariant_of-self
invariant_of-self c = empty_room _ refl c.clear.ensures.items (omega (arith, c.clear.ensures.capacity, c.self.invariant.room))

pub returns : goal.returns
returns c = empty_row (record { kinds = None; bytes = c.clear.new.self }) refl

use Rattle.std.proofs.Common.{arith}
use Rattle.dia_item.proofs.RowLemmas.{field_row}
use Rattle.dia_item.proofs.read.row_len.Goals as goal

pub returns-in-len1-clause-found : goal.returns-in-len1-clause-found
returns-in-len1-clause-found c = field_row c.args.kinds.now c.args.bytes.now c.field_len.result (omega arith) c.field_len.ensures.len c.field_len.ensures.found

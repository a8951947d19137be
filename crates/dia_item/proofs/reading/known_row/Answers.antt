use Rattle.dia_item.specs.KindList.{kind_list}
use Rattle.dia_item.proofs.RowLemmas.{row_is}
use Rattle.dia_item.proofs.TestLemmas.{test_of_row}
use Rattle.dia_item.proofs.reading.known_row.Goals as goal

pub invariant_of-result : goal.invariant_of-result
invariant_of-result c = record { is_row = test_of_row (kind_list c.args.kinds.now) c.args.bytes.now c.requires.0 c.requires.1 }

pub returns : goal.returns
returns c = λ row is. row_is (kind_list c.args.kinds.now) c.args.bytes.now row is

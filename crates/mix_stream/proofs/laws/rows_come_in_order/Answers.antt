use Rattle.mix_stream.proofs.Rows.{come_in_order}
use Rattle.mix_stream.proofs.laws.rows_come_in_order.Goals as goal

pub returns : goal.returns
returns c = come_in_order

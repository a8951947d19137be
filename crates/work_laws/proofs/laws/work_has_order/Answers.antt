use Rattle.work_laws.proofs.OrderLemmas.{work_has_order}
use Rattle.work_laws.proofs.laws.work_has_order.Goals as goal

pub returns : goal.returns
returns c = work_has_order

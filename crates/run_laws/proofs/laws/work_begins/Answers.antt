use Rattle.std.proofs.Common.{refl}
use Rattle.run_laws.proofs.WorkLemmas.{work_order}
use Rattle.run_laws.proofs.laws.work_begins.Goals as goal

pub returns : goal.returns
returns c = λ script sound. record { parts = refl; ready = tt; order = work_order script sound }

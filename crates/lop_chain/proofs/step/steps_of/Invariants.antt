use Rattle.std.proofs.Common.{◌≡◌, take}
use Rattle.lop_chain.specs.Ops.{ops_in}
use Rattle.lop_chain.specs.Steps.{steps_in}
use Rattle.lop_chain.proofs.step.steps_of.Given as goal

abbrev pub invariant-loop-op : goal.invariant-loop-op
invariant-loop-op l = steps_in l.steps.items ≡ ops_in (take l.op-index l.ops)

use Rattle.std.proofs.Common.{◌≡◌, take}
use Rattle.lop_chain.specs.Ops.{ops_in}
use Rattle.lop_chain.proofs.script_op.copy_ops.Given as goal

abbrev pub invariant-loop-op : goal.invariant-loop-op
invariant-loop-op l = ops_in l.copies.items ≡ ops_in (take l.op-index l.ops)

use Rattle.std.proofs.Common.{◌≡◌, take, vec_len}
use Rattle.lop_chain.specs.Steps.{buffers_needed}
use Rattle.lop_chain.proofs.chain.buffers_for.Given as goal

abbrev pub invariant-loop-step : goal.invariant-loop-step
invariant-loop-step l = vec_len l.buffers ≡ buffers_needed (take l.step-index l.steps)

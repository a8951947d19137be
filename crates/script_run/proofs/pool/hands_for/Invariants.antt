use Rattle.std.proofs.Common.{◌≡◌, ◌++◌, length, vec_len}
use Rattle.std.specs.Prelude.{vec_capacity}
use Rattle.std.specs.List.{AllZip}
use Rattle.std.specs.Vec.Iter.{into_iter_items}
use Rattle.script_run.specs.Pools.{IsHandOf}
use Rattle.script_run.proofs.pool.hands_for.Given as goal

abbrev pub invariant-loop-pass : goal.invariant-loop-pass
invariant-loop-pass g l = record {
  rest : l.yielded ++ into_iter_items l.pass-iterator ≡ l.fn.shares.items;
  hands : AllZip IsHandOf l.yielded l.hands.items;
  count : vec_len l.hands ≡ length l.yielded;
  room : vec_capacity l.hands ≡ vec_capacity l.initial.hands;
}

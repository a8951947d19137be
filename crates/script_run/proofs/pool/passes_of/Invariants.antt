use Rattle.std.proofs.Common.{◌≡◌, ◌++◌, length, vec_len}
use Rattle.std.specs.Prelude.{vec_capacity}
use Rattle.std.specs.List.{AllZip}
use Rattle.std.specs.Vec.Iter.{into_iter_items}
use Rattle.script_run.specs.Pools.{IsPassOf}
use Rattle.script_run.proofs.pool.passes_of.Given as goal

abbrev pub invariant-loop-hand : goal.invariant-loop-hand
invariant-loop-hand g l = record {
  rest : l.yielded ++ into_iter_items l.hand-iterator ≡ l.fn.hands.items;
  passes : AllZip IsPassOf l.yielded l.passes.items;
  count : vec_len l.passes ≡ length l.yielded;
  room : vec_capacity l.passes ≡ vec_capacity l.initial.passes;
}

use Rattle.std.proofs.Common.{◌≡◌, ◌++◌, length, vec_len}
use Rattle.std.specs.Prelude.{vec_capacity}
use Rattle.std.specs.List.{AllZip}
use Rattle.std.specs.Vec.Iter.{into_iter_items}
use Rattle.lent_step.proofs.phase.part_all.Given as goal

abbrev pub invariant-loop-task : goal.invariant-loop-task
invariant-loop-task g l = record {
  rest : l.yielded ++ into_iter_items l.task-iterator ≡ l.fn.tasks.items;
  desks : AllZip (λ t d. d ≡ t.desk) l.yielded l.desks.items;
  works : AllZip (λ t w. w ≡ t.work) l.yielded l.works.items;
  desk_count : vec_len l.desks ≡ length l.yielded;
  work_count : vec_len l.works ≡ length l.yielded;
  desk_room : vec_capacity l.desks ≡ vec_capacity l.fn.desks;
  work_room : vec_capacity l.works ≡ vec_capacity l.fn.works;
}

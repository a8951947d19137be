-- What a step says where there is more to do, and where that was all.
use Rattle.std.proofs.Common.{Result, Ok, Err, OnOk}
use Rattle.worker_step.specs.declared.task.Progress.{Progress}
use Rattle.worker_step.specs.declared.task.Progress.TheVariants.{More, Done}
use Rattle.worker_step.specs.Tasks.{OnMore, OnDone}

pub on_more : {E : Type 0} (r : Result Progress E) (A B C P : Type 0) → (A → B → C → P) → OnOk r A → OnMore r B → OnMore r C → OnMore r P
on_more (Ok More) A B C P f a b c = f a b c
on_more (Ok Done) A B C P f a b c = tt
on_more (Err e) A B C P f a b c = tt

pub on_done : {E : Type 0} (r : Result Progress E) (A B P : Type 0) → (A → B → P) → OnOk r A → OnDone r B → OnDone r P
on_done (Ok More) A B P f a b = tt
on_done (Ok Done) A B P f a b = f a b
on_done (Err e) A B P f a b = tt

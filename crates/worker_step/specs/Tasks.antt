-- What is said of a step, of a task's end and of all tasks.
use Rattle.std.specs.Prelude.{◌≡◌, List, ◌∷◌, ◌++◌, All, ◌⊎◌, Result, Ok, Err, ⊤}
use Rattle.worker_step.specs.declared.task.Progress.{Progress}
use Rattle.worker_step.specs.declared.task.Progress.TheVariants.{More, Done}

-- where the step tells that there is more to do
abbrev pub OnMore : {E : Type 0} → Result Progress E → Type 0 → Type 0
OnMore (Ok More) P = P
OnMore (Ok Done) P = ⊤
OnMore (Err e) P = ⊤

-- where it tells that that was all
abbrev pub OnDone : {E : Type 0} → Result Progress E → Type 0 → Type 0
OnDone (Ok More) P = ⊤
OnDone (Ok Done) P = P
OnDone (Err e) P = ⊤

-- a task is done, or has faulted
abbrev pub HasEnded : {T E : Type 0} → (T → Type 0) → (T → E → Type 0) → T → Type 0
HasEnded {T} {E} done faulted task = done task ⊎ ((e : E) × faulted task e)

-- All tasks have ended; this is the fault of one of them, and all before it are done.
pub record IsFaultOfLowest {T E : Type 0} (done : T → Type 0) (faulted : T → E → Type 0) (tasks : List T) (e : E) : Type 0 where
  pub front : List T
  pub task : T
  pub back : List T
  pub parts : tasks ≡ front ++ task ∷ back
  pub all_done : All done front
  pub here : faulted task e
  pub ended : All (HasEnded done faulted) back

-- the first fault of two answers
abbrev pub first_fault : {A E : Type 0} → Result A E → Result A E → Result A E
first_fault (Ok a) r = r
first_fault (Err e) r = Err e

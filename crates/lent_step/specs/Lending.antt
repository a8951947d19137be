-- What is lent to works, and what a phase leaves of works and desks.
use Rattle.std.specs.Prelude.{◌≡◌, ◌<◌, ◌≤◌, ℕ, List, [], ◌∷◌, ⊤, Some, Result, Ok, Err, slice_get, vec_len, vec_capacity}
use Rattle.lent_step.specs.declared.held.Held.{Held}
use Rattle.lent_step.specs.declared.lent_task.LentTask.{Ghosts}
use Rattle.lent_step.specs.declared.phase.Room.{Room}
use Rattle.lent_step.specs.declared.phase.Stopped.{Stopped}
use Rattle.lent_step.specs.declared.phase.Stopped.TheVariants.{NoMemory, Fault}

-- R holds at each place of the works and desks before, and of those after
abbrev pub AllRan : {W H V : Type 0} → (W → H → V → H → Type 0) → List W → List H → List V → List H → Type 0
AllRan R [] [] [] [] = ⊤
AllRan R [] [] [] (e ∷ es) = ⊥
AllRan R [] [] (v ∷ vs) es = ⊥
AllRan R [] (d ∷ ds) vs es = ⊥
AllRan R (w ∷ ws) [] vs es = ⊥
AllRan R (w ∷ ws) (d ∷ ds) [] es = ⊥
AllRan R (w ∷ ws) (d ∷ ds) (v ∷ vs) [] = ⊥
AllRan R (w ∷ ws) (d ∷ ds) (v ∷ vs) (e ∷ es) = R w d v e × AllRan R ws ds vs es

-- The work of this rank ended with the fault, from its desk at the call, and each work of a lower rank is done.
pub record IsFaultAt {W H F : Type 0} (done : W → H → Type 0) (faulted : H → F → W → H → Type 0) (desks : List H) (works : List W) (ends : List H) (e : F) : Type 0 where
  pub rank : ℕ
  pub before : H
  pub work : W
  pub after : H
  pub was : slice_get desks rank ≡ Some before
  pub its : slice_get works rank ≡ Some work
  pub is : slice_get ends rank ≡ Some after
  pub here : faulted before e work after
  pub lower : (k : ℕ) (w : W) (d : H) → k < rank → slice_get works k ≡ Some w → slice_get ends k ≡ Some d → done w d

-- where a phase came to nothing
abbrev pub OnNoMemory : {A F : Type 0} → Result A (Stopped F) → Type 0 → Type 0
OnNoMemory (Ok a) P = ⊤
OnNoMemory (Err NoMemory) P = P
OnNoMemory (Err (Fault e)) P = ⊤

-- where it was run
abbrev pub OnRan : {A F : Type 0} → Result A (Stopped F) → Type 0 → Type 0
OnRan (Ok a) P = P
OnRan (Err NoMemory) P = ⊤
OnRan (Err (Fault e)) P = P

-- where it ended with a fault
abbrev pub IfFault : {A F : Type 0} → Result A (Stopped F) → (F → Type 0) → Type 0
IfFault (Ok a) P = ⊤
IfFault (Err NoMemory) P = ⊤
IfFault (Err (Fault e)) P = P e

-- each task holds its desk and its work, and has just begun
abbrev pub AreHeld : {H W : Type 0} → List (Held H W) → List H → List W → Type 0
AreHeld [] [] [] = ⊤
AreHeld [] [] (w ∷ ws) = ⊥
AreHeld [] (d ∷ ds) ws = ⊥
AreHeld (t ∷ ts) [] ws = ⊥
AreHeld (t ∷ ts) (d ∷ ds) [] = ⊥
AreHeld (t ∷ ts) (d ∷ ds) (w ∷ ws) = (t.desk ≡ d) × (t.work ≡ w) × (t.began.value ≡ d) × AreHeld ts ds ws

-- a task that may be stepped, and whose desk is a later state of the one that it began with
abbrev pub IsReady : {W H F : Type 0} → Ghosts W H F → Held H W → Type 0
IsReady g t = g.ready t.work t.desk × g.keeps t.began.value t.desk

-- there is room for so many tasks, and for the way back
pub record HasRoom {H W : Type 0} (count : ℕ) (room : Room H W) : Type 0 where
  pub no_tasks : vec_len room.tasks ≡ 0
  pub no_back : vec_len room.back ≡ 0
  pub no_ends : vec_len room.ends ≡ 0
  pub for_tasks : count ≤ vec_capacity room.tasks
  pub for_back : count ≤ vec_capacity room.back
  pub for_ends : count ≤ vec_capacity room.ends

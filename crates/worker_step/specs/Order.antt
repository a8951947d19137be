-- Which task makes the next step, and how tasks stand between steps.
use Rattle.std.specs.Prelude.{◌≡◌, ℕ, zero, suc, ◌+◌, ◌*◌, ◌<◌, ◌≤◌, ◌%◌, ◌^◌, ◌/◌, List, [], ◌∷◌, Bool, true, false, Option, Some, None, IfSome, length, slice_get, slice_index_or, nat_lt, if◌then◌else◌}
use Rattle.worker_step.specs.Tasks.{HasEnded}
use Rattle.worker_step.specs.declared.task.Task.{Ghosts}

-- the generator's next number
abbrev pub next_number : ℕ → ℕ
next_number x = (x * 6364136223846793005 + 1442695040888963407) % 2 ^ 64

-- its number after so many draws
abbrev pub number_drawn : ℕ → ℕ → ℕ
number_drawn zero x = x
number_drawn (suc draws) x = next_number (number_drawn draws x)

-- the generator went on from one number to another by at least so many draws
pub record IsDrawn (least seed next : ℕ) : Type 0 where
  pub draws : ℕ
  pub enough : least ≤ draws
  pub is : next ≡ number_drawn draws seed

-- the ranks of the tasks that haven't ended, in order, from rank n on
abbrev pub live_from : ℕ → List Bool → List ℕ
live_from n [] = []
live_from n (true ∷ live) = n ∷ live_from (n + 1) live
live_from n (false ∷ live) = live_from (n + 1) live

-- the one of them that the number after this one picks
abbrev pub picked : ℕ → List Bool → Option ℕ
picked seed live = slice_get (live_from 0 live) ((next_number seed / 2 ^ 33) % length (live_from 0 live))

-- how many steps are left at most, the last one of each task counted too
abbrev pub steps_left : {T : Type 0} → (T → ℕ) → List T → List Bool → ℕ
steps_left left [] live = 0
steps_left left (t ∷ tasks) [] = 0
steps_left left (t ∷ tasks) (true ∷ live) = suc (left t) + steps_left left tasks live
steps_left left (t ∷ tasks) (false ∷ live) = steps_left left tasks live

-- the rank of the lowest fault, or else how many tasks there are
abbrev pub lowest_or : {F : Type 0} → Option (ℕ × F) → ℕ → ℕ
lowest_or None n = n
lowest_or (Some f) n = f.0

-- the fault of the lower rank
abbrev pub noted : {F : Type 0} → Option (ℕ × F) → ℕ → F → Option (ℕ × F)
noted None rank e = Some (rank, e)
noted (Some f) rank e = if nat_lt f.0 rank then Some f else Some (rank, e)

-- The live tasks may be stepped, the others have ended, and the lowest fault so far is noted.
pub record Stands {T F : Type 0} (g : Ghosts T F) (tasks : List T) (live : List Bool) (fault : Option (ℕ × F)) : Type 0 where
  pub long : length live ≡ length tasks
  pub ready : (k : ℕ) (d : T) → k < length tasks → slice_index_or live k true ≡ true → g.ready (slice_index_or tasks k d)
  pub ended : (k : ℕ) (d : T) → k < length tasks → slice_index_or live k true ≡ false → HasEnded g.done g.faulted (slice_index_or tasks k d)
  pub all_done : (k : ℕ) (d : T) → k < lowest_or fault (length tasks) → slice_index_or live k true ≡ false → g.done (slice_index_or tasks k d)
  pub here : IfSome fault (λ f. (f.0 < length tasks) × (slice_index_or live f.0 true ≡ false) × ((d : T) → g.faulted (slice_index_or tasks f.0 d) f.1))

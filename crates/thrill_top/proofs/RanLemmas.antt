-- What is promised where a script was read and run.
use Rattle.std.proofs.Common.{◌≡◌, ◌≢◌, ◌⊎◌, inl, inr, ℕ, ◌/◌, ◌<◌, ◌≤◌, List, [], ◌∷◌, Bool, Some, IfSome, IfErr, is_some, Result, Ok, Err, refl, sym, ap, subst, ◌∙◌, arith, append-nil}
use Rattle.row_defs.specs.Inputs.{Inputs}
use Rattle.script_defs.specs.Scripts.{Script}
use Rattle.script_defs.specs.Needs.{inputs_needed}
use Rattle.dia_edge.specs.Shelves.{and_asked}
use Rattle.dia_edge.specs.declared.shelf.Shelf as shelves
use Rattle.dia_edge.specs.declared.sink.Sink as sinks
use Rattle.dia_edge.specs.declared.disk.Disk as disks
use Rattle.dia_edge.proofs.CountLemmas.{tells_since}
use Rattle.dia_edge.proofs.SinkLemmas.{but_none, all_but}
use Rattle.dia_lines.specs.Inputs.{Asks, Stays}
use Rattle.stage_laws.specs.Standing.{Ended, EndsWith}
use Rattle.script_run.specs.declared.run_err.RunErr.{RunErr}
use Rattle.script_run.specs.declared.run_err.RunErr.TheVariants as errors
use Rattle.script_run.specs.Errors.{ending_in}
use Rattle.script_run.specs.Jobs.{needed_frames, TellsJob, TellsAll}
use Rattle.script_run.specs.Weighing.{IsSpilled}
use Rattle.job_words.specs.Faults.{fault_status}
use Rattle.job_words.specs.declared.command.Job.{Job}
use Rattle.job_words.specs.declared.fault.TopFault.{TopFault}
use Rattle.job_words.specs.declared.fault.TopFault.TheVariants as faults
use Rattle.thrill_top.specs.Asking.{IsScriptAt, AskedFor}
use Rattle.thrill_top.specs.Ends.{status_in}
use Rattle.thrill_top.specs.Errors.{run_fault, run_end, Counts, TellsFault}
use Rattle.thrill_top.specs.Promise.{TellsInputs, RunEnd, IsReadable, IsSmall, IsSmallWith, IsLargeEnough, NoneRose, IsExcused, IsWhole, KeepsPromise}
use Rattle.thrill_top.proofs.AskLemmas.{script_whole, script_cut}
use Rattle.thrill_top.proofs.EndLemmas.{error_end, accepted_end, complete_end}
use Rattle.thrill_top.proofs.ScriptLemmas.{never_there, never_refused, same_script}

abbrev Answer : Type 0
Answer = Result (Unit {0}) RunErr

abbrev small_error : ℕ → ℕ → Answer
small_error frames need = Err (errors.PoolTooSmall frames need)

abbrev memory_error : Answer
memory_error = Err errors.NoMemory

-- errors and their faults ----------------------------------------------------------------------------------------------

-- a fault of a pool that is too small is that error
small_is : (e : RunErr) (frames need : ℕ) → run_fault e ≡ faults.PoolTooSmall frames need → e ≡ errors.PoolTooSmall frames need
small_is (errors.Missing name) frames need is = let wrong : ⊥ = cc in absurd wrong
small_is (errors.LineTooLong name n) frames need is = let wrong : ⊥ = cc in absurd wrong
small_is (errors.InputTooLong name) frames need is = let wrong : ⊥ = cc in absurd wrong
small_is (errors.PoolTooSmall a b) frames need is = let one : a ≡ frames = cc in let two : b ≡ need = cc in ap (λ (x : ℕ). errors.PoolTooSmall x b) one ∙ ap (errors.PoolTooSmall frames) two
small_is (errors.TooManyRows n) frames need is = let wrong : ⊥ = cc in absurd wrong
small_is (errors.Read count) frames need is = let wrong : ⊥ = cc in absurd wrong
small_is (errors.Write count) frames need is = let wrong : ⊥ = cc in absurd wrong
small_is (errors.Disk count) frames need is = let wrong : ⊥ = cc in absurd wrong
small_is errors.Damaged frames need is = let wrong : ⊥ = cc in absurd wrong
small_is errors.NoMemory frames need is = let wrong : ⊥ = cc in absurd wrong

some_fault : (f k : TopFault) → Some f ≡ Some k → f ≡ k
some_fault f k e = cc

small_answer : (r : Answer) (frames need : ℕ) → run_end r ≡ Some (faults.PoolTooSmall frames need) → r ≡ small_error frames need
small_answer (Ok done) frames need is = let wrong : ⊥ = cc in absurd wrong
small_answer (Err e) frames need is = ap Err (small_is e frames need (some_fault (run_fault e) (faults.PoolTooSmall frames need) is))

-- what the fault of a run tells
fault_told : (e : RunErr) (a b c x y k l : ℕ) (tells : Bool) → a ≤ b → TellsJob e b c x y tells k l
    → TellsFault (run_fault e) tells (record { shelf = a; out = x; disk = k }) (record { shelf = c; out = y; disk = l })
fault_told (errors.Missing name) a b c x y k l tells low h = tt
fault_told (errors.LineTooLong name n) a b c x y k l tells low h = tt
fault_told (errors.InputTooLong name) a b c x y k l tells low h = tt
fault_told (errors.PoolTooSmall frames need) a b c x y k l tells low h = tt
fault_told (errors.TooManyRows n) a b c x y k l tells low h = tt
fault_told (errors.Read count) a b c x y k l tells low h = tells_since count a b c low h
fault_told (errors.Write count) a b c x y k l tells low h = h
fault_told (errors.Disk count) a b c x y k l tells low h = h
fault_told errors.Damaged a b c x y k l tells low h = h
fault_told errors.NoMemory a b c x y k l tells low h = tt

end_told : (r : Answer) (a b c x y k l : ℕ) (tells : Bool) → a ≤ b → IfErr r (λ e. TellsJob e b c x y tells k l)
    → IfSome (run_end r) (λ f. TellsFault f tells (record { shelf = a; out = x; disk = k }) (record { shelf = c; out = y; disk = l }))
end_told (Ok done) a b c x y k l tells low h = tt
end_told (Err e) a b c x y k l tells low h = fault_told e a b c x y k l tells low h

-- its status
meant_error : (e : RunErr) → fault_status (run_fault e) ≢ 2
meant_error (errors.Missing name) = λ e. cc
meant_error (errors.LineTooLong name n) = λ e. cc
meant_error (errors.InputTooLong name) = λ e. cc
meant_error (errors.PoolTooSmall frames need) = λ e. cc
meant_error (errors.TooManyRows n) = λ e. cc
meant_error (errors.Read count) = λ e. cc
meant_error (errors.Write count) = λ e. cc
meant_error (errors.Disk count) = λ e. cc
meant_error errors.Damaged = λ e. cc
meant_error errors.NoMemory = λ e. cc

meant_end : (r : Answer) → status_in (run_end r) ≢ 2
meant_end (Ok done) = λ e. cc
meant_end (Err e) = meant_error e

error_some : (e : RunErr) → fault_status (run_fault e) ≢ 0
error_some (errors.Missing name) = λ e. cc
error_some (errors.LineTooLong name n) = λ e. cc
error_some (errors.InputTooLong name) = λ e. cc
error_some (errors.PoolTooSmall frames need) = λ e. cc
error_some (errors.TooManyRows n) = λ e. cc
error_some (errors.Read count) = λ e. cc
error_some (errors.Write count) = λ e. cc
error_some (errors.Disk count) = λ e. cc
error_some errors.Damaged = λ e. cc
error_some errors.NoMemory = λ e. cc

-- of the statuses 3 and 6 a run has 6 alone, for a pool that is too small
error_six : (e : RunErr) → (fault_status (run_fault e) ≡ 3) ⊎ (fault_status (run_fault e) ≡ 6) → (frames : ℕ) × (need : ℕ) × (e ≡ errors.PoolTooSmall frames need)
error_six (errors.PoolTooSmall frames need) is = (frames, need, refl)
error_six (errors.Missing name) is = elim is [ inl x ↦ absurd (omega (arith, x)) | inr x ↦ absurd (omega (arith, x)) ]
error_six (errors.LineTooLong name n) is = elim is [ inl x ↦ absurd (omega (arith, x)) | inr x ↦ absurd (omega (arith, x)) ]
error_six (errors.InputTooLong name) is = elim is [ inl x ↦ absurd (omega (arith, x)) | inr x ↦ absurd (omega (arith, x)) ]
error_six (errors.TooManyRows n) is = elim is [ inl x ↦ absurd (omega (arith, x)) | inr x ↦ absurd (omega (arith, x)) ]
error_six (errors.Read count) is = elim is [ inl x ↦ absurd (omega (arith, x)) | inr x ↦ absurd (omega (arith, x)) ]
error_six (errors.Write count) is = elim is [ inl x ↦ absurd (omega (arith, x)) | inr x ↦ absurd (omega (arith, x)) ]
error_six (errors.Disk count) is = elim is [ inl x ↦ absurd (omega (arith, x)) | inr x ↦ absurd (omega (arith, x)) ]
error_six errors.Damaged is = elim is [ inl x ↦ absurd (omega (arith, x)) | inr x ↦ absurd (omega (arith, x)) ]
error_six errors.NoMemory is = elim is [ inl x ↦ absurd (omega (arith, x)) | inr x ↦ absurd (omega (arith, x)) ]

-- what a run came to ----------------------------------------------------------------------------------------------------

-- a run of the script with these numbers, which answers so
pub record Ran {N S D : Type 0} (n : shelves.Ghosts N) (s : sinks.Ghosts S) (d : disks.Ghosts D) (limit block workers : ℕ) (script : Script) (mid now : N) (out out_now : S) (disk disk_now : D) (r : Answer) : Type 0 where
  pub ends : (inputs : Inputs) → TellsAll (n.holds mid) (n.is_fixed mid) (is_some (d.slots disk)) inputs
      → Ended (s.taken out) (EndsWith (IsSpilled limit block (d.writes disk) (d.writes disk_now)) script inputs (ending_in r)) (s.taken out_now)
  pub told : IfErr r (λ e. TellsJob e (n.faults mid) (n.faults now) (s.faults out) (s.faults out_now) (is_some (d.slots disk)) (d.faults disk) (d.faults disk_now))
  pub asked : Asks n mid now (inputs_needed script) r
  pub small : limit / block < needed_frames workers → ((r ≡ small_error (limit / block) (needed_frames workers)) ⊎ (r ≡ memory_error)) × (now ≡ mid) × (out_now ≡ out) × (disk_now ≡ disk)
  pub enough : (frames need : ℕ) → r ≡ small_error frames need → limit / block < needed_frames workers

-- the script was read
pub record ScriptRead {N : Type 0} (n : shelves.Ghosts N) (name : List ℕ) (script : Script) (shelf mid : N) : Type 0 where
  pub read : (inputs : Inputs) → TellsInputs (n.holds shelf) (n.is_fixed shelf) inputs → IsScriptAt inputs name script
  pub stays : Stays n shelf mid
  pub asked : n.asked mid ≡ and_asked (n.asked shelf) (name ∷ [])

module _ {N S D : Type 0} (n : shelves.Ghosts N) (s : sinks.Ghosts S) (d : disks.Ghosts D) (job : Job) (script : Script) (shelf mid now : N) (out out_now : S) (disk disk_now : D) (r : Answer)
    (read : ScriptRead n job.script script shelf mid) (ran : Ran n s d job.limit job.block job.workers script mid now out out_now disk disk_now r) where
  -- a pool that is too small leaves `out` as it was
  small_out : (frames need : ℕ) → r ≡ small_error frames need → out_now ≡ out
  small_out frames need is = (ran.small (ran.enough frames need is)).2

  still_all : (inputs : Inputs) → TellsAll (n.holds shelf) (n.is_fixed shelf) (is_some (d.slots disk)) inputs → TellsAll (n.holds mid) (n.is_fixed mid) (is_some (d.slots disk)) inputs
  still_all inputs all = let still = read.stays.fixed all.fixed_is in record { shelf = still.1 ∙ all.shelf; fixed_is = still.0; disk = all.disk }

  run_ends : (inputs : Inputs) → TellsAll (n.holds shelf) (n.is_fixed shelf) (is_some (d.slots disk)) inputs → Ended (s.taken out) (RunEnd (IsSpilled job.limit job.block (d.writes disk) (d.writes disk_now)) script inputs (run_end r)) (s.taken out_now)
  run_ends inputs all =
      elim r as (λ (x : Answer). r ≡ x → Ended (s.taken out) (RunEnd (IsSpilled job.limit job.block (d.writes disk) (d.writes disk_now)) script inputs (run_end x)) (s.taken out_now)) [
        | Ok done ↦ λ is.
            let Of : Answer → Type 0 = λ x. Ended (s.taken out) (EndsWith (IsSpilled job.limit job.block (d.writes disk) (d.writes disk_now)) script inputs (ending_in x)) (s.taken out_now) in
            let e = subst Of is (ran.ends inputs (still_all inputs all)) in
            record { took = e.took; since = e.since; end = e.end }
        | Err why ↦ λ is. error_ends why is
      ] refl
    where
      error_ends : (why : RunErr) → r ≡ Err why → Ended (s.taken out) (RunEnd (IsSpilled job.limit job.block (d.writes disk) (d.writes disk_now)) script inputs (Some (run_fault why))) (s.taken out_now)
      error_ends (errors.PoolTooSmall frames need) is =
          let same = small_out frames need is in
          let Took : S → Type 0 = λ o. Ended (s.taken out) (λ took. took ≡ []) (s.taken o) in
          subst Took (sym same) (record { took = []; since = all_but (s.taken out) (s.taken out) [] (but_none (s.taken out) []); end = refl })
      error_ends why is =
          let Of : Answer → Type 0 = λ x. Ended (s.taken out) (EndsWith (IsSpilled job.limit job.block (d.writes disk) (d.writes disk_now)) script inputs (ending_in x)) (s.taken out_now) in
          let e = subst Of is (ran.ends inputs (still_all inputs all)) in
          record { took = e.took; since = e.since; end = error_end (IsSpilled job.limit job.block (d.writes disk) (d.writes disk_now)) script inputs why e.took (λ frames need same. (let wrong : ⊥ = cc in absurd wrong)) e.end }

  ran_asked : (inputs : Inputs) (other : Script) → TellsInputs (n.holds shelf) (n.is_fixed shelf) inputs → IsScriptAt inputs job.script other
      → AskedFor n shelf now (job.script ∷ inputs_needed other) (status_in (run_end r))
  ran_asked inputs other told at =
      elim r as (λ (x : Answer). Asks n mid now (inputs_needed script) x → AskedFor n shelf now (job.script ∷ inputs_needed other) (status_in (run_end x))) [
        | Ok done ↦ λ asked.
            let whole = script_whole n inputs job.script script other shelf mid now (read.read inputs told) at read.asked asked in
            record { all = λ zero. whole; some = ([], record { done = job.script ∷ inputs_needed other; parts = sym (append-nil (job.script ∷ inputs_needed other)); is = whole }) }
        | Err e ↦ λ asked. record {
          all = λ zero. absurd (error_some e zero);
          some = script_cut n inputs job.script script other shelf mid now (read.read inputs told) at read.asked asked;
        }
      ] ran.asked

  excused : Answer → Type 0
  excused x = IsSmallWith job (run_end x) ⊎ IsExcused (status_in (run_end x))

  ran_small : IsSmall job → (IsSmallWith job (run_end r) ⊎ IsExcused (status_in (run_end r))) × (out_now ≡ out)
  ran_small low =
      let so = ran.small low in
      let Answers : Answer → Type 0 = λ x. IsSmallWith job (run_end x) ⊎ IsExcused (status_in (run_end x)) in
      (elim so.0 [ inl is ↦ subst Answers (sym is) (inl refl) | inr is ↦ subst Answers (sym is) (inr (inr refl)) ], so.2)

  both_numbers : (frames need : ℕ) → r ≡ small_error frames need → (frames ≡ job.limit / job.block) × (need ≡ needed_frames job.workers)
  both_numbers frames need is =
      elim (ran.small (ran.enough frames need is)).0 [
        | inl same ↦ (let both : small_error frames need ≡ small_error (job.limit / job.block) (needed_frames job.workers) = sym is ∙ same in (cc, cc))
        | inr none ↦ (let both : small_error frames need ≡ memory_error = sym is ∙ none in let wrong : ⊥ = cc in absurd wrong)
      ]

  ran_enough : (frames need : ℕ) → run_end r ≡ Some (faults.PoolTooSmall frames need)
      → IsSmall job × (frames ≡ job.limit / job.block) × (need ≡ needed_frames job.workers) × (n.asked now ≡ and_asked (n.asked shelf) (job.script ∷ []))
  ran_enough frames need is =
      let e = small_answer r frames need is in
      let low = ran.enough frames need e in
      let numbers = both_numbers frames need e in
      (low, numbers.0, numbers.1, ap n.asked (ran.small low).1 ∙ read.asked)

  untouched_error : (status_in (run_end r) ≡ 3) ⊎ (status_in (run_end r) ≡ 6) → out_now ≡ out
  untouched_error is =
      elim r as (λ (x : Answer). r ≡ x → (status_in (run_end x) ≡ 3) ⊎ (status_in (run_end x) ≡ 6) → out_now ≡ out) [
        | Ok done ↦ λ same k. elim k [ inl x ↦ absurd (omega (arith, x)) | inr x ↦ absurd (omega (arith, x)) ]
        | Err e ↦ λ same k. (let six = error_six e k in small_out six.0 six.1 (same ∙ ap Err six.2))
      ] refl is

  ran_complete : (inputs : Inputs) (other : Script) → TellsAll (n.holds shelf) (n.is_fixed shelf) (is_some (d.slots disk)) inputs → IsReadable inputs job.script other → IsLargeEnough job
      → NoneRose (record { shelf = n.faults shelf; out = s.faults out; disk = d.faults disk }) (record { shelf = n.faults now; out = s.faults out_now; disk = d.faults disk_now })
      → IsWhole other inputs (status_in (run_end r))
  ran_complete inputs other all readable large none =
      let before : Counts = record { shelf = n.faults shelf; out = s.faults out; disk = d.faults disk } in
      let later : Counts = record { shelf = n.faults now; out = s.faults out_now; disk = d.faults disk_now } in
      let one = same_script inputs job.script script other (read.read inputs (all.shelf, all.fixed_is)) (readable.bytes, readable.there, readable.reads) in
      let e = run_ends inputs all in
      let Told : Bool → Type 0 = λ b. IfSome (run_end r) (λ f. TellsFault f b before later) in
      let told = subst Told all.disk (end_told r (n.faults shelf) (n.faults mid) (n.faults now) (s.faults out) (s.faults out_now) (d.faults disk) (d.faults disk_now) (is_some (d.slots disk)) read.stays.counts ran.told) in
      let End : Script → Type 0 = λ x. RunEnd (IsSpilled job.limit job.block (d.writes disk) (d.writes disk_now)) x inputs (run_end r) e.took in
      complete_end (IsSpilled job.limit job.block (d.writes disk) (d.writes disk_now)) inputs job.script other (run_end r) e.took before later readable (subst End one e.end)
      (λ frames need is. (let low = ran.enough frames need (small_answer r frames need is) in omega (arith, low, large))) told none

  pub ran_promise : KeepsPromise n s d job shelf now out out_now disk disk_now (run_end r)
  ran_promise = record {
    ends = λ inputs all.
        let e = run_ends inputs all in
        let at = read.read inputs (all.shelf, all.fixed_is) in
        record { took = e.took; since = e.since; end = accepted_end (IsSpilled job.limit job.block (d.writes disk) (d.writes disk_now)) inputs job.script (run_end r) e.took (record { bytes = at.0; there = at.1; script = script; reads = at.2; end = e.end }) };
    script = λ inputs told. (let at = read.read inputs told in record {
      refused = λ k cause refused. never_refused inputs job.script script k cause _ at refused;
      absent = λ none. never_there inputs job.script at.0 _ none at.1;
    });
    small = λ inputs other told at low. ran_small low;
    enough = ran_enough;
    complete = ran_complete;
    asked = ran_asked;
    counts = end_told r (n.faults shelf) (n.faults mid) (n.faults now) (s.faults out) (s.faults out_now) (d.faults disk) (d.faults disk_now) (is_some (d.slots disk)) read.stays.counts ran.told;
    untouched = untouched_error;
    meant = meant_end r;
  }

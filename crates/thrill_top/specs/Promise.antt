-- What a call promises that runs a job, by how it ended.
use Rattle.std.specs.Prelude.{◌≡◌, ◌≢◌, ◌⊎◌, ℕ, ◌/◌, ◌<◌, ◌≤◌, Bool, true, List, [], ◌∷◌, All, Option, None, Some, IfSome, is_some}
use Rattle.row_defs.specs.declared.cause.Cause.{Cause}
use Rattle.row_defs.specs.Rows.{Row}
use Rattle.script_defs.specs.Scripts.{Script}
use Rattle.script_defs.specs.Reading.{ReadsAs, IsRefused}
use Rattle.row_defs.specs.Inputs.{Inputs, missing, line_too_long, input_too_long}
use Rattle.script_defs.specs.Needs.{inputs_needed}
use Rattle.script_defs.specs.Work.{Item, work_of}
use Rattle.script_defs.specs.Runs.{failure_of}
use Rattle.script_defs.specs.Ends.{IsTooMany, IsCutOff, whole, stopped, too_many}
use Rattle.dia_edge.specs.Counts.{HasRisen}
use Rattle.dia_edge.specs.Shelves.{Holdings, and_asked}
use Rattle.dia_edge.specs.declared.shelf.Shelf as shelves
use Rattle.dia_edge.specs.declared.sink.Sink as sinks
use Rattle.dia_edge.specs.declared.disk.Disk as disks
use Rattle.stage_laws.specs.Standing.{Ended, EndsWith}
use Rattle.script_run.specs.Jobs.{needed_frames, TellsAll}
use Rattle.script_run.specs.Weighing.{IsSpilled}
use Rattle.job_words.specs.declared.command.Job.{Job}
use Rattle.job_words.specs.declared.fault.TopFault.{TopFault}
use Rattle.job_words.specs.declared.fault.TopFault.TheVariants as faults
use Rattle.thrill_top.specs.Asking.{IsScriptAt, AskedFor}
use Rattle.thrill_top.specs.Ends.{IsRefusedScript, status_in}
use Rattle.thrill_top.specs.Errors.{Counts, TellsFault}

-- a fixed shelf that tells holds these inputs
abbrev pub TellsInputs : Option Holdings → Bool → Inputs → Type 0
TellsInputs holds fixed inputs = (holds ≡ Some inputs) × (fixed ≡ true)

-- ends ----------------------------------------------------------------------------------------------------------------

-- how the run of an accepted script ends, and what `out` took; W holds of the rows of each `cache` line among the items done
abbrev pub RunEnd : (List Row → Type 0) → Script → Inputs → Option TopFault → List ℕ → Type 0
RunEnd W script inputs None took = EndsWith W script inputs whole took
RunEnd W script inputs (Some faults.Usage) took = ⊥
RunEnd W script inputs (Some (faults.Script n cause)) took = ⊥
RunEnd W script inputs (Some (faults.Missing name)) took = EndsWith W script inputs (stopped name missing) took
RunEnd W script inputs (Some (faults.LineTooLong name n)) took = EndsWith W script inputs (stopped name (line_too_long n)) took
RunEnd W script inputs (Some (faults.InputTooLong name)) took = EndsWith W script inputs (stopped name input_too_long) took
RunEnd W script inputs (Some (faults.PoolTooSmall frames need)) took = took ≡ []
RunEnd W script inputs (Some (faults.TooManyRows n)) took = EndsWith W script inputs (too_many n) took
RunEnd W script inputs (Some (faults.ReadFault count)) took = IsCutOff script inputs took
RunEnd W script inputs (Some (faults.WriteFault count)) took = IsCutOff script inputs took
RunEnd W script inputs (Some (faults.DiskFault count)) took = IsCutOff script inputs took
RunEnd W script inputs (Some faults.Damaged) took = IsCutOff script inputs took
RunEnd W script inputs (Some faults.NoMemory) took = IsCutOff script inputs took

-- the input with this name reads as one script, and its run ends so
pub record IsAccepted (W : List Row → Type 0) (inputs : Inputs) (name : List ℕ) (fault : Option TopFault) (took : List ℕ) : Type 0 where
  pub bytes : List ℕ
  pub there : inputs name ≡ Some bytes
  pub script : Script
  pub reads : ReadsAs bytes script
  pub end : RunEnd W script inputs fault took

-- the input with this name is refused as a script, and `out` took nothing
pub record IsBadScript (inputs : Inputs) (name : List ℕ) (n : ℕ) (cause : Cause) (took : List ℕ) : Type 0 where
  pub bytes : List ℕ
  pub there : inputs name ≡ Some bytes
  pub refused : IsRefused bytes n cause
  pub nothing : took ≡ []

-- how a call that runs the script with this name ends, and what `out` took
abbrev pub CallEnd : (List Row → Type 0) → Inputs → List ℕ → Option TopFault → List ℕ → Type 0
CallEnd W inputs name (Some faults.Usage) took = ⊥
CallEnd W inputs name (Some (faults.Script n cause)) took = IsBadScript inputs name n cause took
CallEnd W inputs name (Some (faults.Missing absent)) took =
    ((absent ≡ name) × (inputs name ≡ None) × (took ≡ [])) ⊎ IsAccepted W inputs name (Some (faults.Missing absent)) took
CallEnd W inputs name (Some (faults.ReadFault count)) took = (took ≡ []) ⊎ IsAccepted W inputs name (Some (faults.ReadFault count)) took
CallEnd W inputs name (Some faults.NoMemory) took = (took ≡ []) ⊎ IsAccepted W inputs name (Some faults.NoMemory) took
CallEnd W inputs name fault took = IsAccepted W inputs name fault took

-- since it began, when `out` told `begun`
abbrev pub EndsCall : (List Row → Type 0) → Inputs → List ℕ → Option (List ℕ) → Option TopFault → Option (List ℕ) → Type 0
EndsCall W inputs name begun fault taken = Ended begun (CallEnd W inputs name fault) taken

-- premises ------------------------------------------------------------------------------------------------------------

-- an item that is the line of an input whose bytes may be read, or anything else
abbrev pub IsOpen : Script → Inputs → Item → Type 0
IsOpen script inputs item = failure_of script inputs (λ l. None) item ≡ None

-- the input with this name reads as the script, and each input that it needs is there and within its limits
pub record IsReadable (inputs : Inputs) (name : List ℕ) (script : Script) : Type 0 where
  pub bytes : List ℕ
  pub there : inputs name ≡ Some bytes
  pub reads : ReadsAs bytes script
  pub open_inputs : All (IsOpen script inputs) (work_of script)

-- the job's pool has fewer frames than its workers need
abbrev pub IsSmall : Job → Type 0
IsSmall job = job.limit / job.block < needed_frames job.workers

abbrev pub IsLargeEnough : Job → Type 0
IsLargeEnough job = needed_frames job.workers ≤ job.limit / job.block

-- no count rose
pub record NoneRose (before now : Counts) : Type 0 where
  pub shelf : HasRisen before.shelf now.shelf → ⊥
  pub out : HasRisen before.out now.out → ⊥
  pub disk : HasRisen before.disk now.disk → ⊥

-- answers -------------------------------------------------------------------------------------------------------------

abbrev pub IsRefusedWith : ℕ → Cause → Option TopFault → Type 0
IsRefusedWith n cause fault = fault ≡ Some (faults.Script n cause)

abbrev pub IsAbsentWith : List ℕ → Option TopFault → Type 0
IsAbsentWith name fault = fault ≡ Some (faults.Missing name)

-- the two numbers of a pool that is too small
abbrev pub IsSmallWith : Job → Option TopFault → Type 0
IsSmallWith job fault = fault ≡ Some (faults.PoolTooSmall (job.limit / job.block) (needed_frames job.workers))

-- a fault of the shelf, or want of memory
abbrev pub IsExcused : ℕ → Type 0
IsExcused status = (status ≡ 8) ⊎ (status ≡ 12)

-- what the end of a call says of a script that is refused or isn't there; `untouched` says that `out` took nothing
pub record TellsScript (inputs : Inputs) (name : List ℕ) (fault : Option TopFault) (untouched : Type 0) : Type 0 where
  pub refused : (n : ℕ) (cause : Cause) → IsRefusedScript inputs name n cause → (IsRefusedWith n cause fault ⊎ IsExcused (status_in fault)) × untouched
  pub absent : inputs name ≡ None → (IsAbsentWith name fault ⊎ IsExcused (status_in fault)) × untouched

-- no line or action is one at which more rows arrive than may, whatever run leads to it
abbrev pub HasNoTooMany : Script → Inputs → Type 0
HasNoTooMany script inputs = (n : ℕ) (took : List ℕ) → IsTooMany script inputs n took → ⊥

-- 0, or 12 for want of memory, or 7 where some line or action is one at which more rows arrive than may
abbrev pub IsWhole : Script → Inputs → ℕ → Type 0
IsWhole script inputs status = ((status ≡ 0) ⊎ ((status ≡ 7) ⊎ (status ≡ 12))) × (HasNoTooMany script inputs → (status ≡ 0) ⊎ (status ≡ 12))

-- the promise ---------------------------------------------------------------------------------------------------------

-- What the running of a job promises: the shelf, `out` and the disk before and after it, and the fault that it ended with.
pub record KeepsPromise {N S D : Type 0} (n : shelves.Ghosts N) (s : sinks.Ghosts S) (d : disks.Ghosts D) (job : Job) (shelf shelf_now : N) (out out_now : S) (disk disk_now : D)
    (fault : Option TopFault) : Type 0 where
  -- Where the shelf tells what it holds and is fixed, and the disk tells: at status 0 there is one list for each line that an
  -- action needs and for no other, each a result of its definition on the lists that it names, and an `out` that tells took
  -- exactly the texts of the script's actions on these lists. At each other status the end is the one that the fault tells:
  -- `out` took exactly the texts of the actions before, or at 8 to 12 a prefix of such texts. And at 0, 4, 5 and 7 the disk's
  -- writes rose, for each `cache` line among the items done, by at least what its encoded rows have beyond the pool's limit, in
  -- blocks.
  pub ends : (inputs : Inputs) → TellsAll (n.holds shelf) (n.is_fixed shelf) (is_some (d.slots disk)) inputs
      → EndsCall (IsSpilled job.limit job.block (d.writes disk) (d.writes disk_now)) inputs job.script (s.taken out) fault (s.taken out_now)
  -- Where the shelf tells and is fixed: a script that is refused ends the call just so, and one that isn't there, want of
  -- memory and faults of the shelf apart; and `out` took nothing, whatever it tells.
  pub script : (inputs : Inputs) → TellsInputs (n.holds shelf) (n.is_fixed shelf) inputs → TellsScript inputs job.script fault (out_now ≡ out)
  -- There, too: where the script is accepted and the pool is too small, both numbers are told, want of memory and faults of the
  -- shelf apart; and `out` took nothing.
  pub small : (inputs : Inputs) (script : Script) → TellsInputs (n.holds shelf) (n.is_fixed shelf) inputs → IsScriptAt inputs job.script script → IsSmall job
      → (IsSmallWith job fault ⊎ IsExcused (status_in fault)) × (out_now ≡ out)
  -- That fault comes nowhere else; then the shelf was asked for the script alone.
  pub enough : (frames need : ℕ) → fault ≡ Some (faults.PoolTooSmall frames need)
      → IsSmall job × (frames ≡ job.limit / job.block) × (need ≡ needed_frames job.workers) × (n.asked shelf_now ≡ and_asked (n.asked shelf) (job.script ∷ []))
  -- And where the script is accepted, each input that it needs can be read, the pool is large enough, the shelf and the disk tell
  -- and no count rises, the status is 0, or 12 for want of memory, or 7 where more rows arrive at a line or an action than may.
  pub complete : (inputs : Inputs) (script : Script) → TellsAll (n.holds shelf) (n.is_fixed shelf) (is_some (d.slots disk)) inputs → IsReadable inputs job.script script → IsLargeEnough job
      → NoneRose (record { shelf = n.faults shelf; out = s.faults out; disk = d.faults disk }) (record { shelf = n.faults shelf_now; out = s.faults out_now; disk = d.faults disk_now })
      → IsWhole script inputs (status_in fault)
  -- A shelf that tells was asked for the script, and then for the input of each `lines` line that an action needs, once for each
  -- line and in the order of work: at 0 for all of them, else for some first ones; and for nothing else.
  pub asked : (inputs : Inputs) (script : Script) → TellsInputs (n.holds shelf) (n.is_fixed shelf) inputs → IsScriptAt inputs job.script script
      → AskedFor n shelf shelf_now (job.script ∷ inputs_needed script) (status_in fault)
  -- What each fault tells of the counts.
  pub counts : IfSome fault (λ f. TellsFault f (is_some (d.slots disk)) (record { shelf = n.faults shelf; out = s.faults out; disk = d.faults disk })
      (record { shelf = n.faults shelf_now; out = s.faults out_now; disk = d.faults disk_now }))
  -- At 3 and 6 `out` took nothing, whatever it tells.
  pub untouched : (status_in fault ≡ 3) ⊎ (status_in fault ≡ 6) → out_now ≡ out
  -- The words meant something.
  pub meant : status_in fault ≢ 2

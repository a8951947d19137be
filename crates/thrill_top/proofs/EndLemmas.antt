-- How the run of an accepted script ends, and whether it could have been done.
use Rattle.std.proofs.Common.{◌≡◌, inl, inr, ℕ, zero, suc, List, [], ◌∷◌, drop, Option, None, Some, IfSome, true, refl, sym, ap, ◌∙◌, arith}
use Rattle.std.specs.Prelude.{Contains}
use Rattle.std.proofs.lemmas.List.Elements.{All-contains}
use Rattle.row_defs.specs.Rows.{Row}
use Rattle.row_defs.specs.Inputs.{Inputs, InputFailure, missing, line_too_long, input_too_long}
use Rattle.script_defs.specs.Scripts.{Script}
use Rattle.script_defs.specs.Lists.{input_failure}
use Rattle.script_defs.specs.Work.{Item, do_line, work_of}
use Rattle.script_defs.specs.Runs.{failure_of, failure_of_statement}
use Rattle.script_defs.specs.Ends.{IsStopped}
use Rattle.stage_laws.specs.Standing.{EndsWith}
use Rattle.script_run.specs.declared.run_err.RunErr.{RunErr}
use Rattle.script_run.specs.declared.run_err.RunErr.TheVariants as errors
use Rattle.script_run.specs.Errors.{ending_of}
use Rattle.job_words.specs.declared.fault.TopFault.{TopFault}
use Rattle.job_words.specs.declared.fault.TopFault.TheVariants as faults
use Rattle.thrill_top.specs.Ends.{status_in}
use Rattle.thrill_top.specs.Errors.{run_fault, Counts, TellsFault}
use Rattle.thrill_top.specs.Promise.{RunEnd, IsAccepted, CallEnd, IsOpen, IsReadable, NoneRose, IsWhole}

-- the end that an error tells is the one of its fault; a pool that is too small is told before anything is done
pub error_end : (W : List Row → Type 0) (script : Script) (inputs : Inputs) (e : RunErr) (took : List ℕ) → ((frames need : ℕ) → e ≡ errors.PoolTooSmall frames need → took ≡ [])
    → EndsWith W script inputs (ending_of e) took → RunEnd W script inputs (Some (run_fault e)) took
error_end W script inputs (errors.Missing name) took none h = h
error_end W script inputs (errors.LineTooLong name n) took none h = h
error_end W script inputs (errors.InputTooLong name) took none h = h
error_end W script inputs (errors.PoolTooSmall frames need) took none h = none frames need refl
error_end W script inputs (errors.TooManyRows n) took none h = h
error_end W script inputs (errors.Read count) took none h = h
error_end W script inputs (errors.Write count) took none h = h
error_end W script inputs (errors.Disk count) took none h = h
error_end W script inputs errors.Damaged took none h = h
error_end W script inputs errors.NoMemory took none h = h

pub accepted_end : (W : List Row → Type 0) (inputs : Inputs) (name : List ℕ) (fault : Option TopFault) (took : List ℕ) → IsAccepted W inputs name fault took → CallEnd W inputs name fault took
accepted_end W inputs name None took h = h
accepted_end W inputs name (Some faults.Usage) took h = absurd h.end
accepted_end W inputs name (Some (faults.Script n cause)) took h = absurd h.end
accepted_end W inputs name (Some (faults.Missing absent)) took h = inr h
accepted_end W inputs name (Some (faults.LineTooLong long n)) took h = h
accepted_end W inputs name (Some (faults.InputTooLong long)) took h = h
accepted_end W inputs name (Some (faults.PoolTooSmall frames need)) took h = h
accepted_end W inputs name (Some (faults.TooManyRows n)) took h = h
accepted_end W inputs name (Some (faults.ReadFault count)) took h = inr h
accepted_end W inputs name (Some (faults.WriteFault count)) took h = h
accepted_end W inputs name (Some (faults.DiskFault count)) took h = h
accepted_end W inputs name (Some faults.Damaged) took h = h
accepted_end W inputs name (Some faults.NoMemory) took h = inr h

-- completeness --------------------------------------------------------------------------------------------------------

dropped : (items left : List Item) (n : ℕ) (item : Item) → drop n items ≡ item ∷ left → Contains items item
dropped [] left zero item is = (let wrong : ⊥ = cc in absurd wrong)
dropped [] left (suc n) item is = (let wrong : ⊥ = cc in absurd wrong)
dropped (x ∷ items) left zero item is = (let same : x ∷ items ≡ item ∷ left = is in let first : x ≡ item = cc in (0, omega arith, first))
dropped (x ∷ items) left (suc n) item is = let c = dropped items left n item is in (suc c.0, (let less = c.1 in omega (arith, less)), c.2)

-- no input that can be read stops a run
never_stopped : (inputs : Inputs) (name : List ℕ) (script : Script) (took : List ℕ) (input : List ℕ) (cause : InputFailure) (P : Type 0)
    → IsReadable inputs name script → IsStopped script inputs input cause took → P
never_stopped inputs name script took input cause P r s =
    let free : IsOpen script inputs (do_line s.next) = All-contains (IsOpen script inputs) (work_of script) (do_line s.next) r.open_inputs (dropped (work_of script) s.left s.count (do_line s.next) s.work) in
    let same_failure : failure_of script inputs (λ l. None) (do_line s.next) ≡ failure_of script inputs s.done.lists (do_line s.next) =
    ap (failure_of_statement inputs (λ l. None)) s.is ∙ sym (ap (failure_of_statement inputs s.done.lists) s.is) in
    let wrong_failure : None ≡ Some (input_failure cause) = sym free ∙ same_failure ∙ s.fails in
    let wrong : ⊥ = cc in
    absurd wrong

pub whole_0 : (script : Script) (inputs : Inputs) (status : ℕ) → status ≡ 0 → IsWhole script inputs status
whole_0 script inputs status is = (inl is, λ none. inl is)

pub whole_12 : (script : Script) (inputs : Inputs) (status : ℕ) → status ≡ 12 → IsWhole script inputs status
whole_12 script inputs status is = (inr (inr is), λ none. inr is)

-- the run of a script whose inputs can be read, where no count rose and the disk tells
pub complete_end : (W : List Row → Type 0) (inputs : Inputs) (name : List ℕ) (script : Script) (fault : Option TopFault) (took : List ℕ) (before now : Counts) → IsReadable inputs name script
    → RunEnd W script inputs fault took → ((frames need : ℕ) → fault ≡ Some (faults.PoolTooSmall frames need) → ⊥) → IfSome fault (λ f. TellsFault f true before now) → NoneRose before now
    → IsWhole script inputs (status_in fault)
complete_end W inputs name script None took before now r e large h none = whole_0 script inputs 0 refl
complete_end W inputs name script (Some faults.Usage) took before now r e large h none = absurd e
complete_end W inputs name script (Some (faults.Script n cause)) took before now r e large h none = absurd e
complete_end W inputs name script (Some (faults.Missing absent)) took before now r e large h none = never_stopped inputs name script took absent missing _ r e.0
complete_end W inputs name script (Some (faults.LineTooLong long n)) took before now r e large h none = never_stopped inputs name script took long (line_too_long n) _ r e.0
complete_end W inputs name script (Some (faults.InputTooLong long)) took before now r e large h none = never_stopped inputs name script took long input_too_long _ r e.0
complete_end W inputs name script (Some (faults.PoolTooSmall frames need)) took before now r e large h none = absurd (large frames need refl)
complete_end W inputs name script (Some (faults.TooManyRows n)) took before now r e large h none = (inr (inl refl), λ no. absurd (no n took e.0))
complete_end W inputs name script (Some (faults.ReadFault count)) took before now r e large h none = absurd (none.shelf h.0)
complete_end W inputs name script (Some (faults.WriteFault count)) took before now r e large h none = absurd (none.out h.0)
complete_end W inputs name script (Some (faults.DiskFault count)) took before now r e large h none = absurd (none.disk h)
complete_end W inputs name script (Some faults.Damaged) took before now r e large h none = absurd (h refl)
complete_end W inputs name script (Some faults.NoMemory) took before now r e large h none = whole_12 script inputs 12 refl

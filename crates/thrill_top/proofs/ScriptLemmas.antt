-- A name reads as one script, or is refused for one cause, or isn't there.
use Rattle.std.proofs.Common.{◌≡◌, ◌⊎◌, inl, inr, ℕ, List, None, Some, Result, Ok, Err, refl, sym, ap, subst, ◌∙◌}
use Rattle.row_defs.specs.declared.cause.Cause.{Cause}
use Rattle.row_defs.specs.Inputs.{Inputs}
use Rattle.script_defs.specs.Scripts.{Script}
use Rattle.script_defs.specs.Reading.{reading_of}
use Rattle.script_read.specs.declared.reader.ReadErr.{ReadErr}
use Rattle.script_read.specs.declared.reader.ReadErr.TheVariants as reads
use Rattle.script_read.specs.Answering.{IsReason}
use Rattle.job_words.specs.declared.fault.TopFault.{TopFault}
use Rattle.job_words.specs.declared.fault.TopFault.TheVariants as faults
use Rattle.thrill_top.specs.declared.read.BytesErr.{BytesErr}
use Rattle.thrill_top.specs.declared.read.BytesErr.TheVariants as bytes_errors
use Rattle.thrill_top.specs.Asking.{IsScriptAt}
use Rattle.thrill_top.specs.Ends.{IsRefusedScript, IsAbsentBytes, IsUnread}
use Rattle.thrill_top.specs.Errors.{bytes_fault, script_fault}
use Rattle.thrill_top.specs.Promise.{IsRefusedWith}

same_bytes : (x y : List ℕ) → Some x ≡ Some y → x ≡ y
same_bytes x y e = cc

abbrev ok_of : Script → Result Script (ℕ × Cause)
ok_of script = Ok script

abbrev err_of : ℕ × Cause → Result Script (ℕ × Cause)
err_of e = Err e

-- an input reads as one script
pub same_script : (inputs : Inputs) (name : List ℕ) (mine script : Script) → IsScriptAt inputs name mine → IsScriptAt inputs name script → mine ≡ script
same_script inputs name mine script at other =
    let same : at.0 ≡ other.0 = same_bytes at.0 other.0 (sym at.1 ∙ other.1) in
    let both : ok_of mine ≡ ok_of script = sym at.2 ∙ ap reading_of same ∙ other.2 in
    cc

pub never_there : (inputs : Inputs) (name bytes : List ℕ) (P : Type 0) → inputs name ≡ None → inputs name ≡ Some bytes → P
never_there inputs name bytes P none some = let both : None ≡ Some bytes = sym none ∙ some in let wrong : ⊥ = cc in absurd wrong

-- it is refused for one cause
pub same_refusal : (inputs : Inputs) (name : List ℕ) (n m : ℕ) (cause other : Cause) → IsRefusedScript inputs name m other → IsRefusedScript inputs name n cause
    → IsRefusedWith n cause (Some (faults.Script m other))
same_refusal inputs name n m cause other is r =
    let same : is.0 ≡ r.0 = same_bytes is.0 r.0 (sym is.1 ∙ r.1) in
    let both : err_of (m, other) ≡ err_of (n, cause) = sym is.2 ∙ ap reading_of same ∙ r.2 in
    let pairs : (m, other) ≡ (n, cause) = cc in
    let lines : m ≡ n = ap (λ (p : ℕ × Cause). p.0) pairs in
    let causes : other ≡ cause = ap (λ (p : ℕ × Cause). p.1) pairs in
    ap (λ (k : ℕ). Some (faults.Script k other)) lines ∙ ap (λ (c : Cause). Some (faults.Script n c)) causes

-- what is accepted isn't refused
pub never_refused : (inputs : Inputs) (name : List ℕ) (script : Script) (n : ℕ) (cause : Cause) (P : Type 0) → IsScriptAt inputs name script → IsRefusedScript inputs name n cause → P
never_refused inputs name script n cause P at r =
    let same : at.0 ≡ r.0 = same_bytes at.0 r.0 (sym at.1 ∙ r.1) in
    let both : ok_of script ≡ err_of (n, cause) = sym at.2 ∙ ap reading_of same ∙ r.2 in
    let wrong : ⊥ = cc in
    absurd wrong

-- why a script wasn't read ----------------------------------------------------------------------------------------------

bytes_end : (inputs : Inputs) (name : List ℕ) (e : BytesErr) → IsAbsentBytes e inputs name → IsUnread inputs name (bytes_fault name e)
bytes_end inputs name bytes_errors.Missing absent = (refl, absent)
bytes_end inputs name (bytes_errors.Read count) absent = tt
bytes_end inputs name bytes_errors.NoMemory absent = tt

pub bytes_unread : (inputs : Inputs) (name : List ℕ) (f : TopFault) (e : BytesErr) → (f ≡ bytes_fault name e) ⊎ (f ≡ faults.NoMemory) → IsAbsentBytes e inputs name → IsUnread inputs name f
bytes_unread inputs name f e (inl same) absent = let Unread : TopFault → Type 0 = λ x. IsUnread inputs name x in subst Unread (sym same) (bytes_end inputs name e absent)
bytes_unread inputs name f e (inr none) absent = let Unread : TopFault → Type 0 = λ x. IsUnread inputs name x in subst Unread (sym none) tt

pub script_unread : (inputs : Inputs) (name all : List ℕ) (f : TopFault) (e : ReadErr) → f ≡ script_fault e → IsReason e (reading_of all) → inputs name ≡ Some all → IsUnread inputs name f
script_unread inputs name all f (reads.Bad n cause) same reason there =
    let Unread : TopFault → Type 0 = λ x. IsUnread inputs name x in subst Unread (sym same) (all, there, reason)
script_unread inputs name all f reads.NoMemory same reason there = let Unread : TopFault → Type 0 = λ x. IsUnread inputs name x in subst Unread (sym same) tt

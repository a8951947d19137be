use Rattle.std.proofs.Common.{ℕ, Result, sym, ap, subst, refl, ◌∙◌}
use Rattle.row_defs.specs.declared.cause.Cause.{Cause}
use Rattle.script_defs.specs.Scripts.{Script}
use Rattle.script_defs.specs.Reading.{reading_of}
use Rattle.script_read.specs.Answering.{IsReason}
use Rattle.thrill_top.specs.declared.read.TheConstants.{ASKED}
use Rattle.thrill_top.proofs.ReadLemmas.{reading_cut}
use Rattle.thrill_top.proofs.ScriptLemmas.{bytes_unread, script_unread}
use Rattle.thrill_top.proofs.script.script_named.Goals as goal

pub returns-in-Err-clause-refused : goal.returns-in-Err-clause-refused
returns-in-Err-clause-refused g c = λ inputs tells.
    bytes_unread inputs c.args.name.now c.fault_of_bytes.result c.in-Err.e c.fault_of_bytes.ensures (c.in-Err.ensures.absent inputs tells)

pub returns-in-Ok-read_script-clause-read : goal.returns-in-Ok-read_script-clause-read
returns-in-Ok-read_script-clause-read g c = λ inputs tells.
    let b = c.in-Ok.ensures.bytes inputs tells in
    let same = ap reading_of (c.as_slice.ensures.value ∙ b.2) ∙ reading_cut b.0 ASKED refl in
    (b.0, b.1, sym same ∙ c.in-Ok-read_script.ensures.ok)

pub returns-clause-refused : goal.returns-clause-refused
returns-clause-refused g c = λ inputs tells.
    let b = c.in-Ok.ensures.bytes inputs tells in
    let same = ap reading_of (c.as_slice.ensures.value ∙ b.2) ∙ reading_cut b.0 ASKED refl in
    let e = c.in-Err-read_script.e in
    let Reason : Result Script (ℕ × Cause) → Type 0 = IsReason e in
    script_unread inputs c.args.name.now b.0 c.fault_of_script.result e c.fault_of_script.ensures (subst Reason same c.in-Err-read_script.ensures.refused) b.1

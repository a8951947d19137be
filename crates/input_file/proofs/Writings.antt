-- What a refusal leaves.
use Rattle.std.proofs.Common.{◌≡◌, ℕ, ◌+◌, List, arith}
use Rattle.block_pool.specs.Handles.{HandValue, Notes, Follows, RefusesFrame}
use Rattle.pool_core.specs.declared.refusals.FrameErr.{FrameErr}
use Rattle.pool_core.specs.declared.refusals.FrameErr.TheVariants as frame
use Rattle.dia_file.specs.Tallies.{Frees, Makes}
use Rattle.dia_lines.specs.Inputs.{IsTakersOwn}
use Rattle.dia_lines.specs.declared.line_taker.LineTaker.{Ghosts}
use Rattle.dia_lines.specs.declared.input.InputErr.{InputErr}
use Rattle.dia_lines.specs.declared.input.InputErr.TheVariants.{Missing, LineTooLong, InputTooLong, Refused, Read, NoMemory}
use Rattle.input_file.specs.Refusals.{file_refusal, IsDiskFault}
use Rattle.input_file.specs.Writing.{FreesAll}

-- blocks that were made from none, and then freed, are all that were made
pub freed_all : (n : ℕ) (a b c : Notes) → Makes 0 n a b → Frees n 0 b c → FreesAll a c
freed_all n a b c p q = omega (arith, p.0, p.1, q.0, q.1)

-- what a refusal says of the disk, where a writer's own is one of a frame
pub disk_fault :
    {T : Type 0} (g : Ghosts T HandValue FrameErr) → ((s t : T) (a b : HandValue) (line : List ℕ) (e : FrameErr) → g.refused s a line e t b → RefusesFrame a.notes b.notes e)
    → (t : T) (r : InputErr FrameErr) (a b c : HandValue) → IsTakersOwn g a t b r → Follows b c → IsDiskFault (file_refusal r) a c
disk_fault g says t Missing a b c h f = tt
disk_fault g says t (LineTooLong line) a b c h f = tt
disk_fault g says t InputTooLong a b c h f = tt
disk_fault g says t (Refused (frame.Disk count)) a b c h f = (b, says h.at t a b h.line (frame.Disk count) h.refused, f)
disk_fault g says t (Refused frame.NoMemory) a b c h f = tt
disk_fault g says t (Read count) a b c h f = tt
disk_fault g says t NoMemory a b c h f = tt

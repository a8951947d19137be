-- What is known of the rows of caches is known at a run's end, and still where more is known of them.
use Rattle.std.proofs.Common.{◌≡◌, ℕ, List, length, take, Option, sym, ap, ◌∙◌, subst}
use Rattle.std.proofs.Math.Seq.{take-append_seam}
use Rattle.row_defs.specs.Rows.{Row}
use Rattle.row_defs.specs.Inputs.{Inputs}
use Rattle.script_defs.specs.Scripts.{Script}
use Rattle.script_defs.specs.Lists.{Lists}
use Rattle.script_defs.specs.Work.{Item, work_of}
use Rattle.script_defs.specs.Ends.{Ending, whole, stopped, too_many, cut_off, IsEnd}
use Rattle.run_laws.specs.Order.{InWork}
use Rattle.stage_laws.specs.Standing.{Kept, AllCached, StillHolds, EndsWith, IsAt, Ended}

-- of the items done
pub cached_first : (W : List Row → Type 0) (script : Script) (lists : Lists) (done left : List Item) → InWork script done left
    → AllCached W script lists done → AllCached W script lists (take (length done) (work_of script))
cached_first W script lists done left work all =
    let Of : List Item → Type 0 = λ xs. AllCached W script lists xs in
    let same : take (length done) (work_of script) ≡ done = ap (λ (xs : List Item). take (length done) xs) work.parts ∙ take-append_seam done left in
    subst Of (sym same) all

pub cached_grow : (W W' : List Row → Type 0) (script : Script) (lists : Lists) (items : List Item) → StillHolds W W'
    → AllCached W script lists items → AllCached W' script lists items
cached_grow W W' script lists items still all = λ l of name rows has is list. still rows (all l of name rows has is list)

pub at_grows : (W W' : List Row → Type 0) (script : Script) (inputs : Inputs) (begun : Option (List ℕ)) (done : List Item) (kept : Kept) (taken : Option (List ℕ))
    → StillHolds W W' → IsAt W script inputs begun done kept taken → IsAt W' script inputs begun done kept taken
at_grows W W' script inputs begun done kept taken still at =
    record { lists = at.lists; run = at.run; are = at.are; cached = cached_grow W W' script at.lists done still at.cached; since = at.since }

pub ends_grow : (W W' : List Row → Type 0) (script : Script) (inputs : Inputs) (ending : Ending) (took : List ℕ) → StillHolds W W'
    → EndsWith W script inputs ending took → EndsWith W' script inputs ending took
ends_grow W W' script inputs whole took still e = (e.0, cached_grow W W' script e.0.lists (work_of script) still e.1)
ends_grow W W' script inputs (stopped name cause) took still e =
    (e.0, cached_grow W W' script e.0.done.lists (take e.0.count (work_of script)) still e.1)
ends_grow W W' script inputs (too_many n) took still e =
    (e.0, cached_grow W W' script e.0.done.lists (take e.0.count (work_of script)) still e.1)
ends_grow W W' script inputs cut_off took still e = e

-- with nothing said of the caches
pub ends_plain : (W : List Row → Type 0) (script : Script) (inputs : Inputs) (ending : Ending) (took : List ℕ)
    → EndsWith W script inputs ending took → IsEnd script inputs ending took
ends_plain W script inputs whole took e = e.0
ends_plain W script inputs (stopped name cause) took e = e.0
ends_plain W script inputs (too_many n) took e = e.0
ends_plain W script inputs cut_off took e = e

pub ended_plain : (W : List Row → Type 0) (script : Script) (inputs : Inputs) (begun : Option (List ℕ)) (ending : Ending) (taken : Option (List ℕ))
    → Ended begun (EndsWith W script inputs ending) taken → Ended begun (IsEnd script inputs ending) taken
ended_plain W script inputs begun ending taken h = record { took = h.took; since = h.since; end = ends_plain W script inputs ending h.took h.end }

-- The hands of workers before and after a stage.
use Rattle.std.proofs.Common.{◌≡◌, ℕ, ◌<◌, ◌≤◌, List, [], ◌∷◌, length, get_or, refl, sym, ap, ◌∙◌, subst, arith}
use Rattle.std.specs.Prelude.{All}
use Rattle.std.specs.List.{AllZip}
use Rattle.std.proofs.Math.ListN.{set}
use Rattle.std.proofs.lemmas.List.Elements.{All-nil, All-cons, All-head, All-tail, All-weaker}
use Rattle.row_defs.specs.Rows.{Row}
use Rattle.block_pool.specs.Handles.{PoolName, HandValue, HasHit, Follows}
use Rattle.block_pool.specs.Weighing.{Weighs}
use Rattle.dia_file.specs.Encoding.{encoded}
use Rattle.dia_file.specs.Files.{FileValue, IsFileOf}
use Rattle.input_file.specs.declared.refusals.ReadFileErr.{ReadFileErr}
use Rattle.input_file.specs.declared.refusals.ReadFileErr.TheVariants as inputs
use Rattle.input_file.specs.Refusals.{IsDiskFault}
use Rattle.scatter.specs.Nets.{AreOfOnePool}
use Rattle.scatter.specs.Phases.{pools_of}
use Rattle.scatter.specs.Told.{HasPermit, SomeHit}
use Rattle.scatter.proofs.Hands.{follow_refl, permits_refl}
use Rattle.sink_files.specs.Ending.{HasTwoPermits}
use Rattle.scatter.proofs.Hands.{all_tell, hit_since}
use Rattle.script_run.specs.declared.run_err.RunErr.{RunErr}
use Rattle.script_run.specs.declared.run_err.RunErr.TheVariants as errors
use Rattle.script_run.specs.Errors.{TellsStop}
use Rattle.script_run.specs.Reading.{HitsSome}
use Rattle.script_run.specs.Weighing.{IsWeighed}
use Rattle.dia_edge.proofs.CountLemmas.{tells_since}

abbrev pub SamePermits : HandValue → HandValue → Type 0
SamePermits a b = b.permits ≡ a.permits

-- a hand with two permits has one
pub one_permit : (hands : List HandValue) → All HasTwoPermits hands → All HasPermit hands
one_permit hands two = All-weaker HasTwoPermits HasPermit (λ a has. omega arith) hands two

pub two_still : (hands now : List HandValue) → AllZip SamePermits hands now → All HasTwoPermits hands → All HasTwoPermits now
two_still [] [] all two = All-nil HasTwoPermits
two_still [] (b ∷ now) all two = absurd all
two_still (a ∷ hands) [] all two = absurd all
two_still (a ∷ hands) (b ∷ now) all two =
    All-cons HasTwoPermits b now (rw all.0 (All-head HasTwoPermits a hands two)) (two_still hands now all.1 (All-tail HasTwoPermits a hands two))

-- the first hand alone changed
pub first_follows : (a b : HandValue) (rest : List HandValue) → Follows a b → AllZip Follows (a ∷ rest) (b ∷ rest)
first_follows a b rest follows = (follows, follow_refl rest)

pub first_permits : (a b : HandValue) (rest : List HandValue) → b.permits ≡ a.permits → AllZip SamePermits (a ∷ rest) (b ∷ rest)
first_permits a b rest same = (same, permits_refl rest)

in_pool : (pool : PoolName) (hands now : List HandValue) → AllZip Follows hands now → All (λ hand. hand.pool ≡ pool) hands → All (λ hand. hand.pool ≡ pool) now
in_pool pool [] [] all own = All-nil (λ hand. hand.pool ≡ pool)
in_pool pool [] (b ∷ now) all own = absurd all
in_pool pool (a ∷ hands) [] all own = absurd all
in_pool pool (a ∷ hands) (b ∷ now) all own =
    let InPool : HandValue → Type 0 = λ hand. hand.pool ≡ pool in
    All-cons InPool b now (all.0.pool ∙ All-head InPool a hands own) (in_pool pool hands now all.1 (All-tail InPool a hands own))

pub one_still : (hands now : List HandValue) → AllZip Follows hands now → AreOfOnePool hands → AreOfOnePool now
one_still hands now all one = record { pool = one.pool; all = in_pool one.pool hands now all one.all }

-- files of one pool are of the hands of that pool, by rank
pub own_parts : (pool : PoolName) (hands : List HandValue) (files : List FileValue) → All (λ hand. hand.pool ≡ pool) hands → All (λ file. IsFileOf pool file) files → length files ≡ length hands
    → AllZip IsFileOf (pools_of hands) files
own_parts pool [] [] own are long = tt
own_parts pool [] (f ∷ files) own are long = absurd (omega (arith, long))
own_parts pool (a ∷ hands) [] own are long = absurd (omega (arith, long))
own_parts pool (a ∷ hands) (f ∷ files) own are long =
    let InPool : HandValue → Type 0 = λ hand. hand.pool ≡ pool in
    let IsOfPool : FileValue → Type 0 = λ file. IsFileOf pool file in
    let Own : PoolName → Type 0 = λ p. IsFileOf p f in (
      subst Own (sym (All-head InPool a hands own)) (All-head IsOfPool f files are),
      own_parts pool hands files (All-tail InPool a hands own) (All-tail IsOfPool f files are) (omega (arith, long)),
    )

-- what is told since an earlier time ------------------------------------------------------------------------------------

-- a stop tells the same since the hands and the counts were lower
pub stop_since : (e : RunErr) (a b c x y z : ℕ) (hands mid now : List HandValue) → a ≤ b → x ≤ y → AllZip Follows hands mid → TellsStop e b c y z mid now → TellsStop e a c x z hands now
stop_since (errors.Missing name) a b c x y z hands mid now low out follows tells = tt
stop_since (errors.LineTooLong name line) a b c x y z hands mid now low out follows tells = tt
stop_since (errors.InputTooLong name) a b c x y z hands mid now low out follows tells = tt
stop_since (errors.PoolTooSmall frames need) a b c x y z hands mid now low out follows tells = absurd tells
stop_since (errors.TooManyRows line) a b c x y z hands mid now low out follows tells = tt
stop_since (errors.Read count) a b c x y z hands mid now low out follows tells = tells_since count a b c low tells
stop_since (errors.Write count) a b c x y z hands mid now low out follows tells = tells_since count x y z out tells
stop_since (errors.Disk count) a b c x y z hands mid now low out follows tells = hit_since hands mid now count follows tells
stop_since errors.Damaged a b c x y z hands mid now low out follows tells = λ all. tells (all_tell hands mid follows all)
stop_since errors.NoMemory a b c x y z hands mid now low out follows tells = tt

-- a list whose first hand alone changed -----------------------------------------------------------------------------------

pub set_follows : (hands : List HandValue) (a b : HandValue) → 0 < length hands → a ≡ get_or hands 0 a → Follows a b → AllZip Follows hands (set hands 0 b)
set_follows [] a b some is follows = absurd (omega arith)
set_follows (x ∷ rest) a b some is follows = let From : HandValue → Type 0 = λ h. Follows h b in first_follows x b rest (subst From is follows)

pub set_permits : (hands : List HandValue) (a b : HandValue) → 0 < length hands → a ≡ get_or hands 0 a → b.permits ≡ a.permits → AllZip SamePermits hands (set hands 0 b)
set_permits [] a b some is same = absurd (omega arith)
set_permits (x ∷ rest) a b some is same = first_permits x b rest (same ∙ ap (λ (h : HandValue). h.permits) is)

pub set_hit : (hands : List HandValue) (a b met : HandValue) (count : ℕ) → 0 < length hands → a ≡ get_or hands 0 a → HasHit a.notes met.notes count → Follows met b → SomeHit hands (set hands 0 b) count
set_hit [] a b met count some is hit later = absurd (omega arith)
set_hit (x ∷ rest) a b met count some is hit later =
    let From : HandValue → Type 0 = λ h. HasHit h.notes met.notes count in
    record { rank = 0; before = x; met = met; after = b; was = refl; is = refl; hit = subst From is hit; later = later }

-- the first hand is of the pool of all
pub first_in : (hands : List HandValue) (a : HandValue) (one : AreOfOnePool hands) → 0 < length hands → a ≡ get_or hands 0 a → a.pool ≡ one.pool
first_in [] a one some is = absurd (omega arith)
first_in (x ∷ rest) a one some is = ap (λ (h : HandValue). h.pool) is ∙ All-head (λ h. h.pool ≡ one.pool) x rest one.all

-- files that are of each hand's pool are of the first hand's
pub all_first : (hands : List HandValue) (files : List FileValue) (pool : PoolName) → All (λ h. h.pool ≡ pool) hands → AllZip IsFileOf (pools_of hands) files → All (λ f. IsFileOf pool f) files
all_first [] [] pool own zip = All-nil (λ f. IsFileOf pool f)
all_first [] (f ∷ files) pool own zip = absurd zip
all_first (x ∷ hands) [] pool own zip = absurd zip
all_first (x ∷ hands) (f ∷ files) pool own zip =
    let InPool : HandValue → Type 0 = λ h. h.pool ≡ pool in
    let Own : PoolName → Type 0 = λ p. IsFileOf p f in
    All-cons (λ k. IsFileOf pool k) f files (subst Own (All-head InPool x hands own) zip.0) (all_first hands files pool (All-tail InPool x hands own) zip.1)

pub set_weighed : (hands : List HandValue) (a b : HandValue) (rows : List Row) → 0 < length hands → a ≡ get_or hands 0 a → Follows a b → Weighs a.pool.opening b.notes (length (encoded rows)) → IsWeighed (set hands 0 b) rows
set_weighed [] a b rows some is follows weighs = absurd (omega arith)
set_weighed (x ∷ rest) a b rows some is follows weighs =
    let Of : PoolName → Type 0 = λ p. Weighs p.opening b.notes (length (encoded rows)) in subst Of (sym follows.pool) weighs

pub set_some : (hands : List HandValue) (b : HandValue) → 0 < length hands → 0 < length (set hands 0 b)
set_some [] b some = absurd (omega arith)
set_some (x ∷ rest) b some = some

pub disk_hits : (e : ReadFileErr) (hands : List HandValue) (a b : HandValue) → 0 < length hands → a ≡ get_or hands 0 a → IsDiskFault e a b → HitsSome e hands (set hands 0 b)
disk_hits inputs.Missing hands a b some is fault = tt
disk_hits (inputs.LineTooLong k) hands a b some is fault = tt
disk_hits inputs.InputTooLong hands a b some is fault = tt
disk_hits (inputs.Read count) hands a b some is fault = tt
disk_hits (inputs.Disk count) hands a b some is fault = set_hit hands a b fault.0 count some is fault.1 fault.2
disk_hits inputs.NoMemory hands a b some is fault = tt

-- What the writes of the disk are at least.
use Rattle.std.proofs.Common.{◌≡◌, ℕ, ◌+◌, ◌-◌, ◌*◌, ◌/◌, ◌<◌, ◌≤◌, List, [], ◌∷◌, length, get_or, Result, Ok, Err, IfOk, refl, sym, ap, ◌∙◌, subst, arith, length-append}
use Rattle.std.specs.Prelude.{All}
use Rattle.std.specs.List.{AllZip}
use Rattle.std.proofs.Math.ListN.{set}
use Rattle.std.proofs.Math.Nat.{le_trans, mul-le-mul_right, le_of_mul-le-mul_right, div-mul-le_self}
use Rattle.std.proofs.lemmas.List.Elements.{All-head}
use Rattle.std.proofs.lemmas.List.Sums.{sum_by-cons}
use Rattle.block_pool.specs.Handles.{PoolName, HandValue, Notes, PassValue, Follows}
use Rattle.block_pool.specs.Opening.{IsBorneOut}
use Rattle.block_pool.specs.Views.{Opening}
use Rattle.block_pool.specs.Weighing.{Weighs}
use Rattle.dia_file.specs.Cuts.{rows_of_files, bytes_of_files}
use Rattle.dia_file.specs.Encoding.{encoded}
use Rattle.dia_file.specs.Files.{FileValue}
use Rattle.dia_file.proofs.RowBytes.{encoded-append}
use Rattle.stage_laws.specs.Standing.{StillHolds}
use Rattle.script_run.specs.Pools.{IsPassOf}
use Rattle.script_run.specs.Weighing.{IsWeighed, IsSpilled}
use Rattle.script_run.proofs.HandLemmas.{set_weighed}

times_sum : (a b k : ℕ) → (a + b) * k ≡ a * k + b * k
times_sum a b k = omega arith

weighs_later : (opening : Opening) (before after : Notes) (sum : ℕ) → before.left.writes ≤ after.left.writes → Weighs opening before sum → Weighs opening after sum
weighs_later opening before after sum low weighs = λ few.
    let so = weighs (let less = few in omega arith) in
    let more = mul-le-mul_right {m = opening.frames + before.left.writes} {n = opening.frames + after.left.writes} opening.block (omega arith) in
    le_trans so more

pub weighed_still : (hands now : List HandValue) → AllZip Follows hands now → StillHolds (IsWeighed hands) (IsWeighed now)
weighed_still [] [] follows = λ rows weighed. weighed
weighed_still [] (b ∷ now) follows = λ rows weighed. absurd weighed
weighed_still (a ∷ hands) [] follows = λ rows weighed. absurd follows
weighed_still (a ∷ hands) (b ∷ now) follows = λ rows weighed.
    let Of : PoolName → Type 0 = λ p. Weighs p.opening b.notes (length (encoded rows)) in
    subst Of (sym follows.0.pool) (weighs_later a.pool.opening a.notes b.notes (length (encoded rows)) follows.0.grown.left.1 weighed)

-- the bytes of files are those of their rows
pub files_bytes : (files : List FileValue) → bytes_of_files files ≡ length (encoded (rows_of_files files))
files_bytes [] = refl
files_bytes (f ∷ files) =
    sum_by-cons (λ (g : FileValue). length (encoded g.rows)) f files ∙ ap (λ (n : ℕ). length (encoded f.rows) + n) (files_bytes files)
    ∙ sym (ap (λ (xs : List ℕ). length xs) (encoded-append f.rows (rows_of_files files)) ∙ length-append (encoded f.rows) (encoded (rows_of_files files)))

-- blocks of so many bytes in all that a pool of this limit bears out are writes
pub weighed_writes : (limit block before left sum : ℕ) → 0 < block → limit < sum → sum + before * block ≤ (limit / block + left) * block → before + (sum - limit) / block ≤ left
weighed_writes limit block before left sum some above weighs =
    let q = (sum - limit) / block in
    let low : q * block ≤ sum - limit = div-mul-le_self (sum - limit) block in
    let frames : limit / block * block ≤ limit = div-mul-le_self limit block in
    let parts : (limit / block + left) * block ≡ limit / block * block + left * block = times_sum (limit / block) left block in
    let sums : (before + q) * block ≡ before * block + q * block = times_sum before q block in
    let whole : (before + q) * block ≤ left * block = omega arith in
    le_of_mul-le-mul_right {m = before + q} {n = left} {k = block} whole some

-- what the first hand weighed is borne out by the disk that its pass gives back
pub spilled : (name : PoolName) (limit block faults writes : ℕ) (hands now : List HandValue) (passes : List PassValue) → name.opening.frames ≡ limit / block → name.opening.block ≡ block → 0 < block
    → All (λ a. a.pool ≡ name) hands → AllZip Follows hands now → AllZip IsPassOf now passes → All (IsBorneOut faults writes) passes
    → StillHolds (IsWeighed now) (IsSpilled limit block name.opening.counts.writes writes)
spilled name limit block faults writes hands [] passes frames size some own follows zip borne = λ rows weighed. absurd weighed
spilled name limit block faults writes [] (b ∷ now) passes frames size some own follows zip borne = λ rows weighed. absurd follows
spilled name limit block faults writes (a ∷ hands) (b ∷ now) [] frames size some own follows zip borne = λ rows weighed. absurd zip
spilled name limit block faults writes (a ∷ hands) (b ∷ now) (p ∷ passes) frames size some own follows zip borne = λ rows weighed above few.
    let InPool : HandValue → Type 0 = λ h. h.pool ≡ name in
    let pool : b.pool ≡ name = follows.0.pool ∙ All-head InPool a hands own in
    let Of : PoolName → Type 0 = λ q. Weighs q.opening b.notes (length (encoded rows)) in
    let there = subst Of pool weighed in
    let out : p.notes.left.writes ≤ writes = (All-head (IsBorneOut faults writes) p passes borne).0 in
    let notes : b.notes.left.writes ≡ p.notes.left.writes = ap (λ (n : Notes). n.left.writes) (sym zip.0.1) in
    let so = there (omega (arith, few, out, notes)) in
    let Frames : ℕ → Type 0 = λ k. length (encoded rows) + name.opening.counts.writes * name.opening.block ≤ (k + b.notes.left.writes) * name.opening.block in
    let Size : ℕ → Type 0 = λ k. length (encoded rows) + name.opening.counts.writes * k ≤ (limit / block + b.notes.left.writes) * k in
    let least = weighed_writes limit block name.opening.counts.writes b.notes.left.writes (length (encoded rows)) some above (subst Size size (subst Frames frames so)) in
    omega (arith, least, notes, out)

-- the first hand weighed files
pub weighed_ok : {T E : Type 0} (r : Result T E) (hands : List HandValue) (a b : HandValue) (files : List FileValue) → 0 < length hands → a ≡ get_or hands 0 a → Follows a b
    → IfOk r (λ back. Weighs a.pool.opening b.notes (bytes_of_files files)) → IfOk r (λ back. IsWeighed (set hands 0 b) (rows_of_files files))
weighed_ok (Err e) hands a b files some is follows weighs = tt
weighed_ok (Ok back) hands a b files some is follows weighs =
    let Of : ℕ → Type 0 = λ n. Weighs a.pool.opening b.notes n in
    set_weighed hands a b (rows_of_files files) some is follows (subst Of (files_bytes files) weighs)

-- Blocks moved so far.
use Rattle.std.proofs.Common.{All, Bool, List, [], ap, append-nil, append_assoc, arith, length, length-append, refl, slice_index_or, subst, sym, take, true, false, ℕ, ◌++◌, ◌+◌, ◌-◌, ◌<◌, ◌∙◌, ◌∷◌, ◌≡◌, ◌≤◌, ◌/◌}
use Rattle.std.specs.VecDeque.{deque_len, deque_capacity}
use Rattle.std.specs.declared.collections.VecDeque.{VecDeque}
use Rattle.std.specs.declared.alloc.Global.{Global}
use Rattle.dia_file.specs.declared.sealed.Sealed.{Sealed}
use Rattle.std.proofs.lemmas.List.Elements.{All-push, All-cons, All-nil, All-from_recursion, recursion_from_All}
use Rattle.std.specs.Prelude.{⊤}
use Rattle.std.specs.List.{AllByRecursion}
use Rattle.row_defs.specs.Rows.{Row}
use Rattle.block_pool.specs.Handles.{PoolName, BlockValue, AreOfPool}
use Rattle.dia_file.specs.Files.{FileValue, IsFileOf}
use Rattle.dia_file.specs.Encoding.{encoded}
use Rattle.std.proofs.lemmas.List.Sums.{sum_by-append}
use Rattle.dia_file.specs.Cuts.{ends_of, lens_of, bytes_of_files, AreEven, HasShare, IsDue, IsWhole, Sought, rows_of_files, blocks_of_files}
use Rattle.std.proofs.Math.Seq.{take-suc}
use Rattle.dia_file.proofs.RowBytes.{encoded-append}
use Rattle.std.proofs.Math.Numerals.{suc-eq-add-one}
use Rattle.std.proofs.Math.Nat.{div-one, div-le_self}
use Rattle.dia_file.proofs.CutLemmas.{ends-append, whole-snoc}

-- no row ends in the blocks behind those that had no more bytes than are wanted
pub record IsOpen (want : ℕ) (items : List Sealed) : Type 0 where
  pub before : List Sealed
  pub long : List Sealed
  pub items_are : items ≡ before ++ long
  pub whole : IsWhole before
  pub few : lens_of before ≤ want
  pub none : ends_of long ≡ 0

-- one more block is moved
pub due_whole : (want : ℕ) (items more : List Sealed) (s : Sealed) → IsWhole items → lens_of items ≤ want → more ≡ items ++ s ∷ [] → IsDue want more
due_whole want items more s whole few e = record { before = items; long = []; last = s ∷ []; items_are = e; whole = whole; few = few; none = refl; one = omega arith }

pub due_open : (want : ℕ) (items more : List Sealed) (s : Sealed) → IsOpen want items → more ≡ items ++ s ∷ [] → IsDue want more
due_open want items more s o e = record {
  before = o.before;
  long = o.long;
  last = s ∷ [];
  items_are = e ∙ ap (λ (xs : List Sealed). xs ++ s ∷ []) o.items_are ∙ append_assoc o.before o.long (s ∷ []);
  whole = o.whole;
  few = o.few;
  none = o.none;
  one = omega arith;
}

pub open_whole : (want : ℕ) (items more : List Sealed) (s : Sealed) → IsWhole items → lens_of items ≤ want → s.ends ≡ 0 → more ≡ items ++ s ∷ [] → IsOpen want more
open_whole want items more s whole few zero_ends e = record { before = items; long = s ∷ []; items_are = e; whole = whole; few = few; none = omega (arith, zero_ends) }

pub open_open : (want : ℕ) (items more : List Sealed) (s : Sealed) → IsOpen want items → s.ends ≡ 0 → more ≡ items ++ s ∷ [] → IsOpen want more
open_open want items more s o zero_ends e = record {
  before = o.before;
  long = o.long ++ s ∷ [];
  items_are = e ∙ ap (λ (xs : List Sealed). xs ++ s ∷ []) o.items_are ∙ append_assoc o.before o.long (s ∷ []);
  whole = o.whole;
  few = o.few;
  none = let all = ends-append o.long (s ∷ []) in let none = o.none in omega (arith, zero_ends, all, none);
}

-- whether a row is open or not, one more block is moved
pub moved_due :
    (want bytes : ℕ) (whole : Bool) (items more : List Sealed) (s : Sealed) → bytes ≡ lens_of items → (whole ≡ true → IsWhole items) → (whole ≡ true → bytes ≤ want) → (whole ≡ false → IsOpen want items)
    → more ≡ items ++ s ∷ [] → IsDue want more × (s.ends ≡ 0 → IsOpen want more)
moved_due want bytes true items more s are whole few opened e =
    let most = few refl in
    (due_whole want items more s (whole refl) (omega (arith, most, are)) e, λ none. open_whole want items more s (whole refl) (omega (arith, most, are)) none e)
moved_due want bytes false items more s are whole few opened e = (due_open want items more s (opened refl) e, λ none. open_open want items more s (opened refl) none e)

pub due_none : (want : ℕ) (items : List Sealed) → items ≡ [] → IsDue want items
due_none want items e = record { before = []; long = []; last = []; items_are = e; whole = tt; few = omega arith; none = refl; one = omega arith }

pub record MovedSoFar (want : ℕ) (first : List Sealed) (from into : VecDeque Sealed Global) (rows bytes : ℕ) (whole : Bool) : Type 0 where
  pub all : into.items ++ from.items ≡ first
  pub rows_are : rows ≡ ends_of into.items
  pub bytes_are : bytes ≡ lens_of into.items
  pub room : deque_len into + deque_len from ≤ deque_capacity into
  pub is_whole : whole ≡ true → IsWhole into.items
  pub due : IsDue want into.items
  pub still_open : whole ≡ false → IsOpen want into.items

pub rows-snoc : (files : List FileValue) (file : FileValue) → rows_of_files (files ++ file ∷ []) ≡ rows_of_files files ++ file.rows
rows-snoc [] file = append-nil file.rows
rows-snoc (x ∷ files) file = ap (λ (rs : List Row). x.rows ++ rs) (rows-snoc files file) ∙ sym (append_assoc x.rows (rows_of_files files) file.rows)

pub blocks-snoc : (files : List FileValue) (file : FileValue) → blocks_of_files (files ++ file ∷ []) ≡ blocks_of_files files ++ file.blocks
blocks-snoc [] file = append-nil file.blocks
blocks-snoc (x ∷ files) file = ap (λ (bs : List BlockValue). x.blocks ++ bs) (blocks-snoc files file) ∙ sym (append_assoc x.blocks (blocks_of_files files) file.blocks)

-- one more file was cut off
pub rows_so_far :
    (files more : List FileValue) (file : FileValue) (rest before all : List Row) → more ≡ files ++ file ∷ [] → file.rows ++ rest ≡ before
    → rows_of_files files ++ before ≡ all → rows_of_files more ++ rest ≡ all
rows_so_far files more file rest before all e cut sum =
    ap (λ (fs : List FileValue). rows_of_files fs ++ rest) e ∙ ap (λ (rs : List Row). rs ++ rest) (rows-snoc files file)
    ∙ append_assoc (rows_of_files files) file.rows rest ∙ ap (λ (rs : List Row). rows_of_files files ++ rs) cut ∙ sum

pub blocks_so_far :
    (files more : List FileValue) (file : FileValue) (rest before all : List BlockValue) → more ≡ files ++ file ∷ [] → file.blocks ++ rest ≡ before
    → blocks_of_files files ++ before ≡ all → blocks_of_files more ++ rest ≡ all
blocks_so_far files more file rest before all e cut sum =
    ap (λ (fs : List FileValue). blocks_of_files fs ++ rest) e ∙ ap (λ (bs : List BlockValue). bs ++ rest) (blocks-snoc files file)
    ∙ append_assoc (blocks_of_files files) file.blocks rest ∙ ap (λ (bs : List BlockValue). blocks_of_files files ++ bs) cut ∙ sum

pub one_more : (P : FileValue → Type 0) (files more : List FileValue) (file : FileValue) → more ≡ files ++ file ∷ [] → All P files → P file → All P more
one_more P files more file e all p = subst (λ (fs : List FileValue). All P fs) (sym e) (All-push P files file all p)

-- the blocks looked at so far, and those of them behind which no row is open
pub record SoughtSoFar (items : List Sealed) (i start before at : ℕ) : Type 0 where
  pub sought : Sought items i start before
  pub seen : ends_of (take at items) ≡ before
  pub at_in : at ≤ length items

pub looked_at : (items : List Sealed) (at : ℕ) (s : Sealed) → at < length items → s ≡ slice_index_or items at s → take (at + 1) items ≡ take at items ++ s ∷ []
looked_at items at s within e = let n = suc-eq-add-one at in subst (λ (n : ℕ). take n items ≡ take at items ++ s ∷ []) n (take-suc items at s within ∙ ap (λ (x : Sealed). take at items ++ x ∷ []) (sym e))

pub sought_on :
    (items : List Sealed) (i start before at : ℕ) (s : Sealed) → SoughtSoFar items i start before at → at < length items → s ≡ slice_index_or items at s → s.ends ≤ i - before
    → 0 < s.ends → SoughtSoFar items i (at + 1) (before + s.ends) (at + 1)
sought_on items i start before at s h within e fits some =
    let more = looked_at items at s within e in
    let ends = ap ends_of more ∙ ends-append (take at items) (s ∷ []) in
    let seen = h.seen in
    let most = h.sought.most in
    let now : ends_of (take (at + 1) items) ≡ before + s.ends = omega (arith, ends, seen) in
    record {
      sought = record { within = omega (arith, within); whole = subst IsWhole (sym more) (whole-snoc (take at items) s some); ends = now; most = omega (arith, fits, most, some) };
      seen = now;
      at_in = omega (arith, within);
    }

pub sought_past :
    (items : List Sealed) (i start before at : ℕ) (s : Sealed) → SoughtSoFar items i start before at → at < length items → s ≡ slice_index_or items at s
    → s.ends ≡ 0 → SoughtSoFar items i start before (at + 1)
sought_past items i start before at s h within e none =
    let more = looked_at items at s within e in
    let ends = ap ends_of more ∙ ends-append (take at items) (s ∷ []) in
    let seen = h.seen in
    record { sought = h.sought; seen = omega (arith, ends, seen, none); at_in = omega (arith, within) }

pub sought_none : (items : List Sealed) (i : ℕ) → SoughtSoFar items i 0 0 0
sought_none items i = record { sought = record { within = omega arith; whole = tt; ends = refl; most = omega arith }; seen = refl; at_in = omega arith }

recursion_first : {X : Type 0} (P : X → Type 0) (xs ys : List X) → AllByRecursion P (xs ++ ys) → AllByRecursion P xs
recursion_first P [] ys own = tt
recursion_first P (x ∷ xs) ys own = (own.0, recursion_first P xs ys own.1)

recursion_last : {X : Type 0} (P : X → Type 0) (xs ys : List X) → AllByRecursion P (xs ++ ys) → AllByRecursion P ys
recursion_last P [] ys own = own
recursion_last P (x ∷ xs) ys own = recursion_last P xs ys own.1

-- the blocks of each part are of the pool that all are of
parts_own_each : (pool : PoolName) (files : List FileValue) → AllByRecursion (λ (b : BlockValue). b.pool ≡ pool) (blocks_of_files files) → All (IsFileOf pool) files
parts_own_each pool [] own = All-nil (IsFileOf pool)
parts_own_each pool (f ∷ files) own =
    let Of : BlockValue → Type 0 = λ b. b.pool ≡ pool in
    All-cons (IsFileOf pool) f files (All-from_recursion Of f.blocks (recursion_first Of f.blocks (blocks_of_files files) own)) (parts_own_each pool files (recursion_last Of f.blocks (blocks_of_files files) own))

pub parts_own : (pool : PoolName) (files : List FileValue) → AreOfPool pool (blocks_of_files files) → All (IsFileOf pool) files
parts_own pool files own = parts_own_each pool files (recursion_from_All (λ (b : BlockValue). b.pool ≡ pool) (blocks_of_files files) own)

-- Files cut off so far, where so many bytes are left for so many files behind them.
abbrev pub EvenSoFar : List FileValue → ℕ → ℕ → Type 0
EvenSoFar [] left count = ⊤
EvenSoFar (f ∷ files) left count = HasShare ((bytes_of_files (f ∷ files) + left) / (length (f ∷ files) + count)) f × EvenSoFar files left count

even_snoc :
    (files : List FileValue) (f : FileValue) (left rest count less : ℕ) → EvenSoFar files left count → left ≡ length (encoded f.rows) + rest → count ≡ less + 1
    → HasShare (left / count) f → EvenSoFar (files ++ f ∷ []) rest less
even_snoc [] f left rest count less h sum fewer few =
    let n : left ≡ bytes_of_files (f ∷ []) + rest = omega (arith, sum) in
    let m : count ≡ length (f ∷ []) + less = omega (arith, fewer) in
    let P : ℕ → ℕ → Type 0 = λ a b. HasShare (a / b) f in
    (subst (λ a. P a (length (f ∷ []) + less)) n (subst (λ b. P left b) m few), tt)
even_snoc (x ∷ files) f left rest count less h sum fewer few =
    let parts = sum_by-append (λ (file : FileValue). length (encoded file.rows)) (x ∷ files) (f ∷ []) in
    let lengths = length-append (x ∷ files) (f ∷ []) in
    let n : bytes_of_files (x ∷ files) + left ≡ bytes_of_files (x ∷ (files ++ f ∷ [])) + rest = omega (arith, sum, parts) in
    let m : length (x ∷ files) + count ≡ length (x ∷ (files ++ f ∷ [])) + less = omega (arith, fewer, lengths) in
    let P : ℕ → ℕ → Type 0 = λ a b. HasShare (a / b) x in (
      subst (λ a. P a (length (x ∷ (files ++ f ∷ [])) + less)) n (subst (λ b. P (bytes_of_files (x ∷ files) + left) b) m h.0),
      even_snoc files f left rest count less h.1 sum fewer few,
    )

pub even_more :
    (files more : List FileValue) (f : FileValue) (left rest count less : ℕ) → EvenSoFar files left count → more ≡ files ++ f ∷ [] → left ≡ length (encoded f.rows) + rest → count ≡ less + 1
    → HasShare (left / count) f → EvenSoFar more rest less
even_more files more f left rest count less h e sum fewer few = subst (λ (fs : List FileValue). EvenSoFar fs rest less) (sym e) (even_snoc files f left rest count less h sum fewer few)

even_of : (files : List FileValue) → EvenSoFar files 0 0 → AreEven files
even_of [] h = tt
even_of (x ∷ files) h =
    let P : ℕ → ℕ → Type 0 = λ a b. HasShare (a / b) x in
    let n : bytes_of_files (x ∷ files) + 0 ≡ bytes_of_files (x ∷ files) = omega arith in
    let m : length (x ∷ files) + 0 ≡ length (x ∷ files) = omega arith in
    (subst (λ a. P a (length (x ∷ files))) n (subst (λ b. P (bytes_of_files (x ∷ files) + 0) b) m h.0), even_of files h.1)

-- the last file has what is left
pub even_all : (files more : List FileValue) (f : FileValue) → EvenSoFar files (length (encoded f.rows)) 1 → more ≡ files ++ f ∷ [] → AreEven more
even_all files more f h e =
    let one : length (encoded f.rows) / 1 ≡ length (encoded f.rows) = div-one (length (encoded f.rows)) in
    even_of more (even_more files more f (length (encoded f.rows)) 0 1 0 h e (omega arith) (omega arith) (omega (arith, one), omega (arith, one)))

pub cut_bytes : (first rest all : List Row) → first ++ rest ≡ all → length (encoded all) ≡ length (encoded first) + length (encoded rest)
cut_bytes first rest all e = ap (λ (rs : List Row). length (encoded rs)) (sym e) ∙ ap (λ (xs : List ℕ). length xs) (encoded-append first rest) ∙ length-append (encoded first) (encoded rest)

-- a share is no more than all
pub share_within : (all count : ℕ) → all / count ≤ all
share_within all count = div-le_self all count

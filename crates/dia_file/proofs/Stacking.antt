-- Blocks and marks of files, one behind the other.
use Rattle.std.proofs.Common.{◌≡◌, ℕ, List, [], ◌∷◌, ◌++◌, length, take, map, refl, sym, ap, ◌∙◌, subst, arith, length-append, append_assoc, append-nil}
use Rattle.std.specs.Prelude.{Result, Ok, Err, IfOk}
use Rattle.std.specs.List.{AllByRecursion}
use Rattle.std.proofs.lemmas.List.{append_cancel_left, length-map}
use Rattle.std.proofs.lemmas.List.Concat.{length-flat_map}
use Rattle.std.proofs.lemmas.List.Elements.{All-append, All-nil}
use Rattle.std.proofs.lemmas.List.Sums.{sum_by-append, sum_by-cons}
use Rattle.std.proofs.Math.Seq.{take-append_seam}
use Rattle.std.specs.VecDeque.{deque_len}
use Rattle.std.specs.declared.collections.VecDeque.{VecDeque}
use Rattle.std.specs.declared.alloc.Global.{Global}
use Rattle.dia_item.specs.KindList.{kind_list}
use Rattle.block_pool.specs.Handles.{PoolName, BlockValue, AreOfPool}
use Rattle.block_pool.specs.Weighing.{block_sum}
use Rattle.dia_file.specs.Encoding.{encoded}
use Rattle.dia_file.proofs.FileLemmas.{stored_bytes}
use Rattle.dia_file.specs.declared.sealed.Sealed.{Sealed}
use Rattle.dia_file.specs.declared.file.File.TheInside.{Inside}
use Rattle.dia_file.specs.declared.weigh.Mark.{Mark}
use Rattle.dia_file.specs.declared.weigh.Shell.{Shell}
use Rattle.dia_file.specs.Frames.{blocks_of}
use Rattle.dia_file.specs.Files.{FileValue, file_value, IsFile, IsStored, rows_stored, joined_blocks, IsFileOf}
use Rattle.dia_file.specs.Cuts.{bytes_of_files}
use Rattle.dia_file.specs.Weighing.{mark_of, marks_of, IsApart, IsStack, shell_of, shells_of, stacked_blocks, stacked_marks}

same_first : {A : Type 0} (xs ys us vs : List A) → xs ++ us ≡ ys ++ vs → length us ≡ length vs → xs ≡ ys
same_first xs ys us vs e same =
    let sum = ap (λ l. length l) e in
    let n : length xs ≡ length ys = omega (arith, sum, same, length-append xs us, length-append ys vs) in
    sym (take-append_seam xs us) ∙ ap (λ l. take (length xs) l) e ∙ ap (λ k. take k (ys ++ vs)) n ∙ take-append_seam ys vs

same_last : {A : Type 0} (xs ys us vs : List A) → xs ++ us ≡ ys ++ vs → length us ≡ length vs → us ≡ vs
same_last xs ys us vs e same = append_cancel_left ys us vs (ap (λ l. l ++ us) (sym (same_first xs ys us vs e same)) ∙ e)

head_or : {A : Type 0} → A → List A → A
head_or d [] = d
head_or d (x ∷ xs) = x

tail_of : {A : Type 0} → List A → List A
tail_of [] = []
tail_of (x ∷ xs) = xs

head_same : {A : Type 0} (x y : A) → x ∷ [] ≡ y ∷ [] → x ≡ y
unfolding head_or
head_same x y e = ap (λ l. head_or x l) e

-- blocks with their marks are pinned by both lists
same_sealed : (us vs : List Sealed) → blocks_of us ≡ blocks_of vs → marks_of us ≡ marks_of vs → us ≡ vs
unfolding head_or tail_of
same_sealed [] [] b m = refl
same_sealed [] (v ∷ vs) b m = let n = ap (λ l. length l) b in absurd (omega (arith, n))
same_sealed (u ∷ us) [] b m = let n = ap (λ l. length l) b in absurd (omega (arith, n))
same_sealed (u ∷ us) (v ∷ vs) b m =
    let block = ap (λ l. head_or u.block l) b in
    let mark = ap (λ l. head_or (mark_of u) l) m in
    let one : u ≡ v = ap (λ (x : BlockValue). record { block = x; ends = u.ends; len = u.len }) block ∙ ap (λ (x : Mark). record { block = v.block; ends = x.ends; len = x.len }) mark in
    ap (λ (x : Sealed). x ∷ us) one ∙ ap (λ (xs : List Sealed). v ∷ xs) (same_sealed us vs (ap (λ l. tail_of l) b) (ap (λ l. tail_of l) m))

-- the last blocks and marks are those of the file that was taken apart
pub same_items :
    (f : Inside) (items : List Sealed) (count : ℕ) (bs cs all : List BlockValue) (ms ns marks : List Mark)
    → all ≡ bs ++ blocks_of f.sealed.items → marks ≡ ms ++ marks_of f.sealed.items → count ≡ deque_len f.sealed
    → cs ++ blocks_of items ≡ all → ns ++ marks_of items ≡ marks → length items ≡ count
    → (items ≡ f.sealed.items) × (cs ≡ bs) × (ns ≡ ms)
same_items f items count bs cs all ms ns marks b m n c d len =
    let ok = f.sealed.ok.0 in
    let size : length items ≡ length f.sealed.items = omega (arith, len, n, ok) in
    let blocks : length (blocks_of items) ≡ length (blocks_of f.sealed.items) = length-map items (λ (s : Sealed). s.block) ∙ size ∙ sym (length-map f.sealed.items (λ (s : Sealed). s.block)) in
    let mark : length (marks_of items) ≡ length (marks_of f.sealed.items) = length-map items mark_of ∙ size ∙ sym (length-map f.sealed.items mark_of) in (
      same_sealed items f.sealed.items (same_last cs bs _ _ (c ∙ b) blocks) (same_last ns ms _ _ (d ∙ m) mark),
      same_first cs bs _ _ (c ∙ b) blocks,
      same_first ns ms _ _ (d ∙ m) mark,
    )

-- A file that is put together is the one that was taken apart.
pub record IsTogether (file : FileValue) (made : Inside) (bs cs : List BlockValue) (ms ns : List Mark) : Type 0 where
  pub is_file : IsFile made
  pub value : file_value made ≡ file
  pub blocks : cs ≡ bs
  pub marks : ns ≡ ms

pub together :
    (file : FileValue) (shell : Shell) (bs : List BlockValue) (ms : List Mark) (all : List BlockValue) (marks : List Mark) (sealed : VecDeque Sealed Global) (cs : List BlockValue) (ns : List Mark)
    → IsApart file shell bs ms all marks → cs ++ blocks_of sealed.items ≡ all → ns ++ marks_of sealed.items ≡ marks → length sealed.items ≡ shell.count
    → IsTogether file (record { kinds = shell.kinds; rows = shell.rows; bytes = shell.bytes; sealed = sealed }) bs cs ms ns
together file shell bs ms all marks sealed cs ns h b m len =
    let f = h.inside in
    let count : shell.count ≡ deque_len f.sealed = ap (λ (s : Shell). s.count) h.shell_is in
    let same = same_items f sealed.items shell.count bs cs all ms ns marks h.blocks_are h.marks_are count b m len in
    let P : Shell → List Sealed → Type 0 = λ s xs. IsStored (kind_list s.kinds) xs s.rows s.bytes in
    let view : Shell → List Sealed → FileValue = λ s xs. record { kinds = kind_list s.kinds; rows = rows_stored (kind_list s.kinds) xs; blocks = blocks_of xs } in
    record {
      is_file = subst (λ s. P s sealed.items) (sym h.shell_is) (subst (λ xs. P (shell_of f) xs) (sym same.0) h.is_file);
      value = ap (λ s. view s sealed.items) h.shell_is ∙ ap (λ xs. view (shell_of f) xs) same.0 ∙ h.value;
      blocks = same.1;
      marks = same.2;
    }

-- One more file is taken apart.
pub stacked_more :
    (first fewer files : List FileValue) (file : FileValue) (shells more_shells : List Shell) (shell : Shell) (bs cs : List BlockValue) (ms ns : List Mark)
    → IsStack first files shells bs ms → first ≡ fewer ++ file ∷ [] → IsApart file shell bs ms cs ns → more_shells ≡ shells ++ shell ∷ []
    → IsStack fewer files more_shells cs ns
stacked_more first fewer files file shells more_shells shell bs cs ms ns h last a more =
    let f = a.inside in
    record {
      apart = f ∷ h.apart;
      are_files = (a.is_file, h.are_files);
      files_are = ap (λ (x : FileValue). fewer ++ x ∷ map file_value h.apart) a.value
          ∙ sym (append_assoc fewer (file ∷ []) (map file_value h.apart))
          ∙ ap (λ (xs : List FileValue). xs ++ map file_value h.apart) (sym last) ∙ h.files_are;
      shells_are = more ∙ ap (λ (xs : List Shell). xs ++ shell ∷ []) h.shells_are ∙ ap (λ (x : Shell). shells_of h.apart ++ x ∷ []) a.shell_is;
      blocks_are = a.blocks_are ∙ ap (λ (xs : List BlockValue). xs ++ blocks_of f.sealed.items) h.blocks_are;
      marks_are = a.marks_are ∙ ap (λ (xs : List Mark). xs ++ marks_of f.sealed.items) h.marks_are;
    }

-- the file whose shell is the last one, and the files behind which it stands
pub record IsLast (first files : List FileValue) (shells : List Shell) (shell : Shell) (blocks : List BlockValue) (marks : List Mark) : Type 0 where
  pub file : FileValue
  pub before : List BlockValue
  pub marks_before : List Mark
  pub apart : IsApart file shell before marks_before blocks marks
  pub stack : IsStack (first ++ file ∷ []) files shells before marks_before

last_of :
    (first files : List FileValue) (shells : List Shell) (shell : Shell) (blocks : List BlockValue) (marks : List Mark) (apart : List Inside)
    → AllByRecursion IsFile apart → first ++ map file_value apart ≡ files → shells ++ shell ∷ [] ≡ shells_of apart → blocks ≡ stacked_blocks apart → marks ≡ stacked_marks apart
    → IsLast first files shells shell blocks marks
last_of first files shells shell blocks marks [] are fs ss bs ms =
    let n = ap (λ (xs : List Shell). length xs) ss in
    absurd (omega (arith, n, length-append shells (shell ∷ [])))
last_of first files shells shell blocks marks (f ∷ rest) are fs ss bs ms = record {
  file = file_value f;
  before = stacked_blocks rest;
  marks_before = stacked_marks rest;
  apart = record {
    inside = f;
    is_file = are.0;
    value = refl;
    shell_is = head_same shell (shell_of f) (same_last shells (shells_of rest) (shell ∷ []) (shell_of f ∷ []) ss refl);
    blocks_are = bs;
    marks_are = ms;
  };
  stack = record {
    apart = rest;
    are_files = are.1;
    files_are = append_assoc first (file_value f ∷ []) (map file_value rest) ∙ fs;
    shells_are = same_first shells (shells_of rest) (shell ∷ []) (shell_of f ∷ []) ss refl;
    blocks_are = refl;
    marks_are = refl;
  };
}

pub is_last :
    (first files : List FileValue) (all shells : List Shell) (shell : Shell) (blocks : List BlockValue) (marks : List Mark)
    → IsStack first files all blocks marks → all ≡ shells ++ shell ∷ [] → IsLast first files shells shell blocks marks
is_last first files all shells shell blocks marks h e = last_of first files shells shell blocks marks h.apart h.are_files h.files_are (sym e ∙ h.shells_are) h.blocks_are h.marks_are

no_shells : (apart : List Inside) → 0 ≡ length (shells_of apart) → apart ≡ []
no_shells [] n = refl
no_shells (f ∷ rest) n = absurd (omega (arith, n, length-append (shells_of rest) (shell_of f ∷ [])))

-- without shells all files are there
pub none_apart : (first files : List FileValue) (shells : List Shell) (blocks : List BlockValue) (marks : List Mark) → IsStack first files shells blocks marks → length shells ≡ 0 → first ≡ files
none_apart first files shells blocks marks h none =
    let n = sym none ∙ ap (λ (xs : List Shell). length xs) h.shells_are in
    sym (append-nil first) ∙ ap (λ (xs : List Inside). first ++ map file_value xs) (sym (no_shells h.apart n)) ∙ h.files_are

-- all blocks are of one pool
pub stacked_own : (pool : PoolName) (apart : List Inside) → AllByRecursion (λ (file : FileValue). IsFileOf pool file) (map file_value apart) → AreOfPool pool (stacked_blocks apart)
stacked_own pool [] own = All-nil (λ (b : BlockValue). b.pool ≡ pool)
stacked_own pool (f ∷ rest) own = All-append (λ (b : BlockValue). b.pool ≡ pool) (stacked_blocks rest) (blocks_of f.sealed.items) (stacked_own pool rest own.1) own.0

-- the blocks' lengths add up to the bytes of all rows
joined_sum : (blocks : List BlockValue) → length (joined_blocks blocks) ≡ block_sum blocks
joined_sum blocks = length-flat_map (λ (b : BlockValue). b.bytes) blocks

file_sum : (f : Inside) → IsFile f → block_sum (blocks_of f.sealed.items) ≡ length (encoded (file_value f).rows)
file_sum f is = sym (joined_sum (blocks_of f.sealed.items)) ∙ ap (λ (xs : List ℕ). length xs) (stored_bytes _ _ _ _ is)

pub stacked_sum : (apart : List Inside) → AllByRecursion IsFile apart → block_sum (stacked_blocks apart) ≡ bytes_of_files (map file_value apart)
stacked_sum [] are = refl
stacked_sum (f ∷ rest) are =
    let more = stacked_sum rest are.1 in
    let here = file_sum f are.0 in
    let parts = sum_by-append (λ (b : BlockValue). length b.bytes) (stacked_blocks rest) (blocks_of f.sealed.items) in
    let sum = sum_by-cons (λ (file : FileValue). length (encoded file.rows)) (file_value f) (map file_value rest) in
    omega (arith, more, here, parts, sum)

pub either_way : {A E : Type 0} (result : Result A E) (P : Type 0) → P → IfOk result (λ _. P)
either_way (Ok x) P p = p
either_way (Err x) P p = tt

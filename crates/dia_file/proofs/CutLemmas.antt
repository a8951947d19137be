-- Lists of blocks that are cut.
use Rattle.std.proofs.Common.{◌≡◌, ℕ, zero, suc, ◌+◌, ◌-◌, ◌≤◌, ◌<◌, ◌⊎◌, ⊎_elim, true, false, List, [], ◌∷◌, ◌++◌, length, refl, sym, ap, subst, ◌∙◌, append_assoc, append-nil, length-append, zero-add, nat_lt, arith}
use Rattle.std.proofs.lemmas.Bool.{ltb-false}
use Rattle.std.proofs.lemmas.List.{map-append}
use Rattle.row_defs.specs.declared.kind.Kind.{Kind}
use Rattle.row_defs.specs.Rows.{Row}
use Rattle.block_pool.specs.Handles.{PoolName}
use Rattle.dia_file.specs.declared.sealed.Sealed.{Sealed}
use Rattle.dia_file.specs.Encoding.{encoded, AreOf}
use Rattle.dia_file.specs.Pieces.{Piece, over, AreIn}
use Rattle.dia_file.specs.Frames.{piece_of, pieces, blocks_of, AllSealedIn}
use Rattle.dia_file.specs.Files.{joined_blocks, rows_stored, IsStored}
use Rattle.dia_file.specs.Cuts.{ends_of, lens_of, last_len, IsDue, IsWhole}
use Rattle.dia_item.specs.Sizes.{longest_row}
use Rattle.dia_file.proofs.RowBytes.{encoded-append}
use Rattle.dia_file.proofs.FileLemmas.{in_bytes, stored_rows}
use Rattle.dia_file.proofs.PieceLemmas.{in_rows, begun_short}

pub some_of : (n : ℕ) → nat_lt 0 n ≡ true → 0 < n
some_of zero e = absurd (cc)
some_of (suc n) e = omega arith

pub none_of : (n : ℕ) → nat_lt 0 n ≡ false → n ≡ 0
none_of n e = let most = ltb-false 0 n e in omega (arith, most)

pub whole-snoc : (items : List Sealed) (s : Sealed) → 0 < s.ends → IsWhole (items ++ s ∷ [])
whole-snoc [] s some = some
whole-snoc (x ∷ []) s some = some
whole-snoc (x ∷ y ∷ items) s some = whole-snoc (y ∷ items) s some

pub ends-append : (xs ys : List Sealed) → ends_of (xs ++ ys) ≡ ends_of xs + ends_of ys
ends-append [] ys = sym (zero-add (ends_of ys))
ends-append (x ∷ xs) ys = let e = ends-append xs ys in omega (arith, e)

pub lens-append : (xs ys : List Sealed) → lens_of (xs ++ ys) ≡ lens_of xs + lens_of ys
lens-append [] ys = sym (zero-add (lens_of ys))
lens-append (x ∷ xs) ys = let e = lens-append xs ys in omega (arith, e)

-- the rows of two lists of pieces
pub record InBoth (kinds : List Kind) (begun : List ℕ) (ps qs : List Piece) (rows : List Row) (rest : List ℕ) : Type 0 where
  pub first : List Row
  pub last : List Row
  pub middle : List ℕ
  pub firsts : AreIn kinds begun ps first middle
  pub lasts : AreIn kinds middle qs last rest
  pub rows_are : rows ≡ first ++ last

pub in_both : (kinds : List Kind) (begun : List ℕ) (ps qs : List Piece) (rows : List Row) (rest : List ℕ) → AreIn kinds begun (ps ++ qs) rows rest → InBoth kinds begun ps qs rows rest
in_both kinds begun [] qs rows rest h = record { first = []; last = rows; middle = begun; firsts = (refl, refl); lasts = h; rows_are = refl }
in_both kinds begun (p ∷ ps) qs rows rest h =
    let more = in_both kinds (over p.ends (begun ++ p.bytes)) ps qs h.1 rest h.3 in record {
      first = h.0 ++ more.first;
      last = more.last;
      middle = more.middle;
      firsts = (h.0, more.first, h.2, more.firsts, refl);
      lasts = more.lasts;
      rows_are = h.4 ∙ ap (λ (rs : List Row). h.0 ++ rs) more.rows_are ∙ sym (append_assoc h.0 more.first more.last);
    }

none_over : (n : ℕ) (bytes : List ℕ) → 0 < n → over n bytes ≡ []
none_over zero bytes some = absurd (omega (arith, some))
none_over (suc n) bytes some = refl

whole_some : (kinds : List Kind) (begun : List ℕ) (s : Sealed) (items : List Sealed) (rows : List Row) (rest : List ℕ) → AreIn kinds begun (pieces (s ∷ items)) rows rest → IsWhole (s ∷ items) → rest ≡ []
whole_some kinds begun s [] rows rest h whole = h.3.1 ∙ none_over s.ends (begun ++ s.block.bytes) whole
whole_some kinds begun s (t ∷ items) rows rest h whole = whole_some kinds (over s.ends (begun ++ s.block.bytes)) t items h.1 rest h.3 whole

-- nothing is open behind whole blocks
pub whole_rest : (kinds : List Kind) (items : List Sealed) (rows : List Row) (rest : List ℕ) → AreIn kinds [] (pieces items) rows rest → IsWhole items → rest ≡ []
whole_rest kinds [] rows rest h whole = h.1
whole_rest kinds (s ∷ items) rows rest h whole = whole_some kinds [] s items rows rest h whole

nothing_behind : (kinds : List Kind) (middle : List ℕ) (items : List Sealed) (rows : List Row) → AreIn kinds middle (pieces items) rows [] → items ≡ [] → middle ≡ []
nothing_behind kinds middle items rows h none =
    let P : List Sealed → Type 0 = λ xs. AreIn kinds middle (pieces xs) rows [] in
    sym (subst P none h).1

sealed_first : (pool : PoolName) (xs ys : List Sealed) → AllSealedIn pool (xs ++ ys) → AllSealedIn pool xs
sealed_first pool [] ys p = tt
sealed_first pool (x ∷ xs) ys p = (p.0, sealed_first pool xs ys p.1)

sealed_last : (pool : PoolName) (xs ys : List Sealed) → AllSealedIn pool (xs ++ ys) → AllSealedIn pool ys
sealed_last pool [] ys p = p
sealed_last pool (x ∷ xs) ys p = sealed_last pool xs ys p.1

are_first : (kinds : List Kind) (xs ys : List Row) → AreOf kinds (xs ++ ys) → AreOf kinds xs
are_first kinds [] ys h = tt
are_first kinds (x ∷ xs) ys h = (h.0, are_first kinds xs ys h.1)

are_last : (kinds : List Kind) (xs ys : List Row) → AreOf kinds (xs ++ ys) → AreOf kinds ys
are_last kinds [] ys h = h
are_last kinds (x ∷ xs) ys h = are_last kinds xs ys h.1

-- so many rows end in the blocks as there are rows, and the blocks have the rows' bytes
pub in_ends : (kinds : List Kind) (begun : List ℕ) (items : List Sealed) (rows : List Row) (rest : List ℕ) → AreIn kinds begun (pieces items) rows rest → ends_of items ≡ length rows
in_ends kinds begun [] rows rest h = sym (ap (λ (rs : List Row). length rs) h.0)
in_ends kinds begun (s ∷ items) rows rest h =
    let more = in_ends kinds (over s.ends (begun ++ s.block.bytes)) items h.1 rest h.3 in
    let all = ap (λ (rs : List Row). length rs) h.4 in
    let here = h.2.len in
    omega (arith, more, all, here, length-append h.0 h.1)

lens_joined : (pool : PoolName) (items : List Sealed) → AllSealedIn pool items → lens_of items ≡ length (joined_blocks (blocks_of items))
lens_joined pool [] h = refl
lens_joined pool (s ∷ items) h =
    let more = lens_joined pool items h.1 in
    let here = h.0.len in
    omega (arith, more, here, length-append s.block.bytes (joined_blocks (blocks_of items)))

pub in_lens : (kinds : List Kind) (pool : PoolName) (items : List Sealed) (rows : List Row) → AllSealedIn pool items → AreIn kinds [] (pieces items) rows [] → lens_of items ≡ length (encoded rows)
in_lens kinds pool items rows sealed h =
    let e = ap (λ (xs : List ℕ). length xs) (in_bytes kinds [] items rows [] h) in
    omega (arith, lens_joined pool items sealed, e, length-append (encoded rows) [])

pub stored_ends : (kinds : List Kind) (items : List Sealed) (n b : ℕ) → IsStored kinds items n b → (ends_of items ≡ n) × (lens_of items ≡ b)
stored_ends kinds items n b i = (in_ends kinds [] items i.rows_are [] i.parts ∙ sym i.rows, in_lens kinds i.pool items i.rows_are i.sealed i.parts ∙ sym i.bytes)

-- the two parts of a list of blocks that is cut where no row is open
pub record IsCut (kinds : List Kind) (items xs ys : List Sealed) (n b : ℕ) : Type 0 where
  pub pool : PoolName
  pub sealed : AllSealedIn pool xs × AllSealedIn pool ys
  pub first : IsStored kinds xs (ends_of xs) (lens_of xs)
  pub last : IsStored kinds ys (n - ends_of xs) (b - lens_of xs)
  pub rows_are : rows_stored kinds xs ++ rows_stored kinds ys ≡ rows_stored kinds items
  pub ends : ends_of xs ≤ n
  pub lens : lens_of xs ≤ b

cut_rows :
    (kinds : List Kind) (items xs ys : List Sealed) (rows first last : List Row)
    → AreIn kinds [] (pieces items) rows [] → AreIn kinds [] (pieces xs) first [] → AreIn kinds [] (pieces ys) last [] → rows ≡ first ++ last
    → rows_stored kinds xs ++ rows_stored kinds ys ≡ rows_stored kinds items
unfolding rows_stored
cut_rows kinds items xs ys rows first last all firsts lasts e =
    ap (λ (rs : List Row). rs ++ rows_stored kinds ys) (in_rows kinds [] (pieces xs) first [] firsts)
    ∙ ap (λ (rs : List Row). first ++ rs) (in_rows kinds [] (pieces ys) last [] lasts)
    ∙ sym e ∙ sym (in_rows kinds [] (pieces items) rows [] all)

pub is_cut :
    (kinds : List Kind) (items xs ys : List Sealed) (n b : ℕ) → IsStored kinds items n b → xs ++ ys ≡ items → IsWhole xs ⊎ (ys ≡ [])
    → IsCut kinds items xs ys n b
is_cut kinds items xs ys n b i e whole =
    let P : List Sealed → Type 0 = λ zs. AllSealedIn i.pool zs in
    let Q : List Sealed → Type 0 = λ zs. AreIn kinds [] (pieces zs) i.rows_are [] in
    let R : List Piece → Type 0 = λ ps. AreIn kinds [] ps i.rows_are [] in
    let sealed = subst P (sym e) i.sealed in
    let both = in_both kinds [] (pieces xs) (pieces ys) i.rows_are [] (subst R (map-append piece_of xs ys) (subst Q (sym e) i.parts)) in
    let closed : both.middle ≡ [] = ⊎_elim (λ w. whole_rest kinds xs both.first both.middle both.firsts w) (λ none. nothing_behind kinds both.middle ys both.last both.lasts none) whole in
    let S : List ℕ → Type 0 = λ bs. AreIn kinds [] (pieces xs) both.first bs in
    let T : List ℕ → Type 0 = λ bs. AreIn kinds bs (pieces ys) both.last [] in
    let U : List Row → Type 0 = λ rs. AreOf kinds rs in
    let firsts = subst S closed both.firsts in
    let lasts = subst T closed both.lasts in
    let are = subst U both.rows_are i.are in
    let first_sealed = sealed_first i.pool xs ys sealed in
    let last_sealed = sealed_last i.pool xs ys sealed in
    let ends = in_ends kinds [] xs both.first [] firsts in
    let lens = in_lens kinds i.pool xs both.first first_sealed firsts in
    let rows = ap (λ (rs : List Row). length rs) both.rows_are in
    let bytes = ap (λ (rs : List Row). length (encoded rs)) both.rows_are ∙ ap (λ (xs : List ℕ). length xs) (encoded-append both.first both.last) in
    let count = length-append both.first both.last in
    let size = length-append (encoded both.first) (encoded both.last) in
    let n_is = i.rows in
    let b_is = i.bytes in
    record {
      pool = i.pool;
      sealed = (first_sealed, last_sealed);
      first = record {
        pool = i.pool;
        rows_are = both.first;
        sealed = first_sealed;
        parts = firsts;
        are = are_first kinds both.first both.last are;
        rows = ends;
        bytes = lens;
        some_kinds = i.some_kinds;
        most_kinds = i.most_kinds;
      };
      last = record {
        pool = i.pool;
        rows_are = both.last;
        sealed = last_sealed;
        parts = lasts;
        are = are_last kinds both.first both.last are;
        rows = omega (arith, ends, rows, count, n_is);
        bytes = omega (arith, lens, bytes, size, b_is);
        some_kinds = i.some_kinds;
        most_kinds = i.most_kinds;
      };
      rows_are = cut_rows kinds items xs ys i.rows_are both.first both.last i.parts firsts lasts both.rows_are;
      ends = omega (arith, ends, rows, count, n_is);
      lens = omega (arith, lens, bytes, size, b_is);
    }

-- How many bytes the blocks have that are due.
none_encoded : (rows : List Row) → length rows ≡ 0 → length (encoded rows) ≡ 0
none_encoded [] none = refl
none_encoded (r ∷ rows) none = absurd (omega (arith, none))

last_len-snoc : (items : List Sealed) (s : Sealed) → last_len (blocks_of (items ++ s ∷ [])) ≡ length s.block.bytes
last_len-snoc [] s = refl
last_len-snoc (x ∷ []) s = refl
last_len-snoc (x ∷ y ∷ items) s = last_len-snoc (y ∷ items) s

last_lens : (pool : PoolName) (items last : List Sealed) → AllSealedIn pool last → length last ≤ 1 → lens_of last ≤ last_len (blocks_of (items ++ last))
last_lens pool items [] sealed one = omega arith
last_lens pool items (s ∷ []) sealed one = let len = sealed.0.len in let last = last_len-snoc items s in omega (arith, len, last)
last_lens pool items (s ∷ t ∷ more) sealed one = absurd (omega (arith, one))

-- blocks in which no row ends have no more bytes than a row, where rows end behind them
long_lens :
    (kinds : List Kind) (pool : PoolName) (long last : List Sealed) (rows : List Row) → length kinds ≤ 6 → AllSealedIn pool long → ends_of long ≡ 0 → AreIn kinds [] (pieces (long ++ last)) rows []
    → lens_of long ≤ longest_row
long_lens kinds pool long last rows most sealed none h =
    let R : List Piece → Type 0 = λ ps. AreIn kinds [] ps rows [] in
    let both = in_both kinds [] (pieces long) (pieces last) rows [] (subst R (map-append piece_of long last) h) in
    let short = begun_short kinds both.middle (pieces last) both.last most both.lasts in
    let bytes = ap (λ (xs : List ℕ). length xs) (in_bytes kinds [] long both.first both.middle both.firsts) in
    let ends = in_ends kinds [] long both.first both.middle both.firsts in
    let first = none_encoded both.first (sym ends ∙ none) in
    omega (arith, short, bytes, first, lens_joined pool long sealed, length-append (encoded both.first) both.middle, length-append [] (joined_blocks (blocks_of long)))

pub few_stored :
    (kinds : List Kind) (items : List Sealed) (n b want : ℕ) → IsStored kinds items n b → IsDue want items
    → length (encoded (rows_stored kinds items)) ≤ want + longest_row + last_len (blocks_of items)
few_stored kinds items n b want i d =
    let P : List Sealed → Type 0 = λ zs. AllSealedIn i.pool zs in
    let Q : List Sealed → Type 0 = λ zs. AreIn kinds [] (pieces zs) i.rows_are [] in
    let R : List Piece → Type 0 = λ ps. AreIn kinds [] ps i.rows_are [] in
    let rest : List Sealed = d.long ++ d.last in
    let all = subst P d.items_are i.sealed in
    let rest_sealed = sealed_last i.pool d.before rest all in
    let both = in_both kinds [] (pieces d.before) (pieces rest) i.rows_are [] (subst R (map-append piece_of d.before rest) (subst Q d.items_are i.parts)) in
    let closed : both.middle ≡ [] = whole_rest kinds d.before both.first both.middle both.firsts d.whole in
    let T : List ℕ → Type 0 = λ bs. AreIn kinds bs (pieces rest) both.last [] in
    let long = long_lens kinds i.pool d.long d.last both.last i.most_kinds (sealed_first i.pool d.long d.last rest_sealed) d.none (subst T closed both.lasts) in
    let L : List Sealed → Type 0 = λ zs. lens_of d.last ≤ last_len (blocks_of zs) in
    let same : (d.before ++ d.long) ++ d.last ≡ items = append_assoc d.before d.long d.last ∙ sym d.items_are in
    let last = subst L same (last_lens i.pool (d.before ++ d.long) d.last (sealed_last i.pool d.long d.last rest_sealed) d.one) in
    let bytes = ap (λ (rs : List Row). length (encoded rs)) (stored_rows kinds items n b i) in
    let lens = ap lens_of d.items_are in
    let sum = in_lens kinds i.pool items i.rows_are i.sealed i.parts in
    omega (arith, long, last, bytes, lens, sum, d.few, lens-append d.before rest, lens-append d.long d.last)

pub stored_size : (kinds : List Kind) (items : List Sealed) (n b : ℕ) → IsStored kinds items n b → length (encoded (rows_stored kinds items)) ≡ b
stored_size kinds items n b i = ap (λ (rs : List Row). length (encoded rs)) (stored_rows kinds items n b i) ∙ sym i.bytes

pub stored_whole : (kinds : List Kind) (items xs ys : List Sealed) → xs ++ ys ≡ items → ys ≡ [] → rows_stored kinds xs ≡ rows_stored kinds items
stored_whole kinds items xs ys e none = ap (λ (zs : List Sealed). rows_stored kinds zs) (sym (append-nil xs) ∙ ap (λ (zs : List Sealed). xs ++ zs) (sym none) ∙ e)

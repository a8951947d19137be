-- A writer's rows.
use Rattle.std.proofs.Common.{◌≡◌, ◌≢◌, ℕ, zero, suc, ◌+◌, ◌≤◌, ◌<◌, ◌^◌, inl, inr, true, false, List, [], ◌∷◌, ◌++◌, length, Option, None, Some, refl, sym, ap, subst, ◌∙◌, append_assoc, append-nil, length-append, arith}
use Rattle.std.proofs.lemmas.List.{map-append}
use Rattle.std.specs.List.{AllByRecursion}
use Rattle.row_defs.specs.declared.kind.Kind.{Kind}
use Rattle.row_defs.specs.declared.kind.Kind.TheVariants.{Int, Text}
use Rattle.row_defs.specs.Rows.{Cell, int, text, Row, IsField, IsRow, bytes_of_u32}
use Rattle.dia_item.proofs.Numbers.{length-bytes_of_u64, length-bytes_of_u32}
use Rattle.dia_item.specs.Sizes.{longest_row}
use Rattle.dia_item.specs.KindList.{kind_list}
use Rattle.block_pool.specs.Handles.{PoolName, BlockValue, FrameValue, AreOfPool, no_opening}
use Rattle.std.proofs.lemmas.List.Elements.{recursion_from_All, All-from_recursion}
use Rattle.dia_file.specs.declared.sealed.Sealed.{Sealed}
use Rattle.dia_file.specs.declared.writer.FileWriter.TheInside.{Inside}
use Rattle.dia_file.specs.Encoding.{spelled, encoded, AreOf}
use Rattle.dia_file.specs.Pieces.{Piece, over, first_bytes, IsPiece, AreIn}
use Rattle.dia_file.specs.Frames.{piece_of, pieces, blocks_of, AllSealedIn, IsFilled, IsFrameIn, frame_bytes, sealed_of, AreLong, joined, Spread, IsPut, IsTorn}
use Rattle.dia_file.specs.Writers.{WriterValue, last_piece, rows_written, writer_value, IsWriterOf, IsIdle, Stands, IsWriter}
use Rattle.dia_file.proofs.RowBytes.{spelled_is, is_spelled, are-append, encoded-append, encoded-one, encoded_short}
use Rattle.dia_file.proofs.PieceLemmas.{in_rows, in-append, in-one, no_rows}

pub written_rows : (w : Inside) (i : IsWriter w) → rows_written w ≡ i.rows_are
unfolding rows_written
written_rows w i =
    let s = i.stands in
    in_rows (kind_list w.kinds) [] (pieces w.sealed.items ++ last_piece w ∷ []) (s.done ++ s.last) _
    (in-append (kind_list w.kinds) [] s.begun _ (pieces w.sealed.items) (last_piece w ∷ []) s.done s.last s.parts (in-one (kind_list w.kinds) s.begun (last_piece w) s.last s.piece))
    ∙ sym s.all

sealed-append : (pool : PoolName) (xs ys : List Sealed) → AllSealedIn pool xs → AllSealedIn pool ys → AllSealedIn pool (xs ++ ys)
sealed-append pool [] ys p q = q
sealed-append pool (x ∷ xs) ys p q = (p.0, sealed-append pool xs ys p.1 q)

long_sealed : (pool : PoolName) (xs : List Sealed) → AreLong pool xs → AllSealedIn pool xs
long_sealed pool [] h = tt
long_sealed pool (x ∷ xs) h = (h.0.1, long_sealed pool xs h.1)

in_long : (kinds : List Kind) (pool : PoolName) (begun : List ℕ) (xs : List Sealed) → AreLong pool xs → AreIn kinds begun (pieces xs) [] (begun ++ joined xs)
in_long kinds pool begun [] h = (refl, append-nil begun)
in_long kinds pool begun (x ∷ xs) h =
    let more = in_long kinds pool (begun ++ x.block.bytes) xs h.1 in
    let P : List ℕ → Type 0 = λ zs. AreIn kinds (begun ++ x.block.bytes) (pieces xs) [] zs in
    let there = subst P (append_assoc begun x.block.bytes (joined xs)) more in
    let Q : ℕ → Type 0 = λ n. AreIn kinds (over n (begun ++ x.block.bytes)) (pieces xs) [] (begun ++ (x.block.bytes ++ joined xs)) in
    ([], [], no_rows kinds begun (piece_of x) h.0.0, subst Q (sym h.0.0) there, refl)

nothing_left : (n : ℕ) (bytes : List ℕ) → (n ≡ 0 → bytes ≡ []) → over n bytes ≡ []
nothing_left zero bytes h = h refl
nothing_left (suc n) bytes h = refl

whole_bytes : (kinds : List Kind) (begun : List ℕ) (p : Piece) (rows : List Row) → IsPiece kinds begun p rows → (p.ends ≡ 0 → begun ++ p.bytes ≡ []) → begun ++ p.bytes ≡ encoded rows
whole_bytes kinds begun p [] h none = none (sym h.len)
whole_bytes kinds begun p (r ∷ rows) h none = h.bytes (omega (arith, h.len))

covers_more :
    (kinds : List Kind) (begun : List ℕ) (p : Piece) (rows : List Row) (row : Row) → IsPiece kinds begun p rows → (p.ends ≡ 0 → begun ++ p.bytes ≡ [])
    → length begun ≤ length (first_bytes (rows ++ row ∷ []))
covers_more kinds begun p [] row h none =
    let e = ap (λ (xs : List ℕ). length xs) (none (sym h.len)) in omega (arith, e, length-append begun p.bytes)
covers_more kinds begun p (r ∷ rows) row h none = h.covers (omega (arith, h.len))

none_last : (rows : List Row) → length rows ≡ 0 → rows ≡ []
none_last [] e = refl
none_last (r ∷ rows) e = absurd (omega arith)

-- the blocks, once the frame is sealed too
pub record IsWhole (kinds : List Kind) (pool : PoolName) (items : List Sealed) (rows : List Row) : Type 0 where
  pub sealed : AllSealedIn pool items
  pub parts : AreIn kinds [] (pieces items) rows []

pub whole_after :
    (kinds : List Kind) (pool : PoolName) (items : List Sealed) (f : Option FrameValue) (ends : ℕ) (rows : List Row) (s : Stands kinds pool items f ends rows)
    → (ends ≡ 0 → s.begun ++ frame_bytes f ≡ []) → IsFilled f → IsWhole kinds pool (items ++ sealed_of f ends) rows
whole_after kinds pool items None ends rows s whole filled =
    let begun : s.begun ≡ [] = sym (append-nil s.begun) ∙ whole s.idle in
    let same : items ++ [] ≡ items = append-nil items in
    let P : List Sealed → Type 0 = λ xs. AllSealedIn pool xs in
    let Q : List Sealed → Type 0 = λ xs. AreIn kinds [] (pieces xs) rows [] in
    let last : s.last ≡ [] = none_last s.last (s.piece.len ∙ s.idle) in
    let all : s.done ≡ rows = sym (append-nil s.done) ∙ ap (λ (rs : List Row). s.done ++ rs) (sym last) ∙ sym s.all in
    let R : List Row → Type 0 = λ rs. AreIn kinds [] (pieces items) rs [] in
    let S : List ℕ → Type 0 = λ bs. AreIn kinds [] (pieces items) s.done bs in
    record { sealed = subst P (sym same) s.sealed; parts = subst Q (sym same) (subst R all (subst S begun s.parts)) }
whole_after kinds pool items (Some f) ends rows s whole filled =
    let one : List Sealed = sealed_of (Some f) ends in
    let p : Piece = record { bytes = f.bytes; ends = ends } in
    let both = in-append kinds [] s.begun (over ends (s.begun ++ f.bytes)) (pieces items) (p ∷ []) s.done s.last s.parts (in-one kinds s.begun p s.last s.piece) in
    let P : List Piece → Type 0 = λ ps. AreIn kinds [] ps (s.done ++ s.last) (over ends (s.begun ++ f.bytes)) in
    let Q : List Row → Type 0 = λ rs. AreIn kinds [] (pieces (items ++ one)) rs (over ends (s.begun ++ f.bytes)) in
    let R : List ℕ → Type 0 = λ bs. AreIn kinds [] (pieces (items ++ one)) rows bs in
    record {
      sealed = sealed-append pool items one s.sealed (record { of_pool = s.frame; len = refl; some = filled }, tt);
      parts = subst R (nothing_left ends (s.begun ++ f.bytes) whole) (subst Q (sym s.all) (subst P (sym (map-append piece_of items one)) both));
    }

-- and once bytes went into long blocks
pub record IsLonger (kinds : List Kind) (pool : PoolName) (items : List Sealed) (rows : List Row) (begun rest bytes : List ℕ) : Type 0 where
  pub sealed : AllSealedIn pool items
  pub parts : AreIn kinds [] (pieces items) rows begun
  pub bytes_are : begun ++ rest ≡ bytes

pub longer_after :
    (kinds : List Kind) (pool : PoolName) (items after : List Sealed) (rows : List Row) (rest bytes : List ℕ)
    → IsWhole kinds pool items rows → (s : Spread pool items after rest bytes) → IsLonger kinds pool after rows (joined s.long) rest bytes
longer_after kinds pool items after rows rest bytes w s =
    let P : List Sealed → Type 0 = λ xs. AllSealedIn pool xs in
    let Q : List Sealed → Type 0 = λ xs. AreIn kinds [] (pieces xs) rows (joined s.long) in
    let both = in-append kinds [] [] (joined s.long) (pieces items) (pieces s.long) rows [] w.parts (in_long kinds pool [] s.long s.are) in
    let R : List Row → Type 0 = λ rs. AreIn kinds [] (pieces items ++ pieces s.long) rs (joined s.long) in
    let S : List Piece → Type 0 = λ ps. AreIn kinds [] ps rows (joined s.long) in
    record {
      sealed = subst P (sym s.items) (sealed-append pool items s.long w.sealed (long_sealed pool s.long s.are));
      parts = subst Q (sym s.items) (subst S (sym (map-append piece_of items s.long)) (subst R (append-nil rows) both));
      bytes_are = s.parts;
    }

idle_some : (g : Option FrameValue) (n : ℕ) → 0 < length (frame_bytes g) → IsIdle g n
idle_some None n some = absurd (omega (arith, some))
idle_some (Some f) n some = tt

put_behind :
    (kinds : List Kind) (pool : PoolName) (items after : List Sealed) (f g : Option FrameValue) (ends more : ℕ) (rows : List Row) (row : Row) (bytes : List ℕ)
    (s : Stands kinds pool items f ends rows) → (ends ≡ 0 → s.begun ++ frame_bytes f ≡ []) → IsRow kinds bytes row
    → IsFrameIn pool g → 0 < length (frame_bytes g) → after ≡ items → frame_bytes g ≡ frame_bytes f ++ bytes → more ≡ ends
    → Stands kinds pool after g (more + 1) (rows ++ row ∷ [])
put_behind kinds pool items after f g ends more rows row bytes s whole is own some a e m =
    let p : Piece = record { bytes = frame_bytes f; ends = ends } in
    let P : List Sealed → Type 0 = λ xs. AllSealedIn pool xs in
    let Q : List Sealed → Type 0 = λ xs. AreIn kinds [] (pieces xs) s.done s.begun in
    let spelled_so : bytes ≡ spelled row = spelled_is kinds bytes row is in
    let before : s.begun ++ frame_bytes f ≡ encoded s.last = whole_bytes kinds s.begun p s.last s.piece whole in
    let behind : s.begun ++ frame_bytes g ≡ encoded (s.last ++ row ∷ []) =
    ap (λ (xs : List ℕ). s.begun ++ xs) e ∙ sym (append_assoc s.begun (frame_bytes f) bytes)
    ∙ ap (λ (xs : List ℕ). xs ++ bytes) before ∙ ap (λ (xs : List ℕ). encoded s.last ++ xs) (spelled_so ∙ sym (encoded-one row))
    ∙ sym (encoded-append s.last (row ∷ [])) in
    record {
      done = s.done;
      last = s.last ++ row ∷ [];
      begun = s.begun;
      sealed = subst P (sym a) s.sealed;
      frame = own;
      idle = idle_some g (more + 1) some;
      parts = subst Q (sym a) s.parts;
      piece = record {
        len = length-append s.last (row ∷ []) ∙ ap (λ (n : ℕ). n + 1) (s.piece.len ∙ sym m);
        are = are-append kinds s.last (row ∷ []) s.piece.are (is_spelled kinds bytes row is, tt);
        bytes = λ _. behind;
        covers = λ _. covers_more kinds s.begun p s.last row s.piece whole;
      };
      all = ap (λ (rs : List Row). rs ++ row ∷ []) s.all ∙ append_assoc s.done s.last (row ∷ []);
    }

put_anew :
    (kinds : List Kind) (pool : PoolName) (items after : List Sealed) (g : Option FrameValue) (more : ℕ) (rows : List Row) (row : Row) (bytes : List ℕ)
    → IsWhole kinds pool items rows → IsRow kinds bytes row → IsFrameIn pool g → 0 < length (frame_bytes g)
    → Spread pool items after (frame_bytes g) bytes → more ≡ 0
    → Stands kinds pool after g (more + 1) (rows ++ row ∷ [])
put_anew kinds pool items after g more rows row bytes w is own some s m =
    let l = longer_after kinds pool items after rows (frame_bytes g) bytes w s in
    let spelled_so : bytes ≡ spelled row = spelled_is kinds bytes row is in
    let lens = ap (λ (xs : List ℕ). length xs) (l.bytes_are ∙ spelled_so) in
    record {
      done = rows;
      last = row ∷ [];
      begun = joined s.long;
      sealed = l.sealed;
      frame = own;
      idle = idle_some g (more + 1) some;
      parts = l.parts;
      piece = record {
        len = omega (arith, m);
        are = (is_spelled kinds bytes row is, tt);
        bytes = λ _. l.bytes_are ∙ spelled_so ∙ sym (encoded-one row);
        covers = λ _. omega (arith, lens, length-append (joined s.long) (frame_bytes g));
      };
      all = refl;
    }

-- one more row was put
pub put_stands :
    (kinds : List Kind) (pool : PoolName) (items after : List Sealed) (f g : Option FrameValue) (ends more : ℕ) (rows : List Row) (row : Row) (bytes : List ℕ)
    (s : Stands kinds pool items f ends rows) → (ends ≡ 0 → s.begun ++ frame_bytes f ≡ []) → IsFilled f → IsRow kinds bytes row
    → IsFrameIn pool g → 0 < length (frame_bytes g) → IsPut pool items f ends after g more bytes
    → Stands kinds pool after g (more + 1) (rows ++ row ∷ [])
put_stands kinds pool items after f g ends more rows row bytes s whole filled is own some (inl h) =
    put_behind kinds pool items after f g ends more rows row bytes s whole is own some h.0 h.1 h.2
put_stands kinds pool items after f g ends more rows row bytes s whole filled is own some (inr h) =
    put_anew kinds pool (items ++ sealed_of f ends) after g more rows row bytes (whole_after kinds pool items f ends rows s whole filled) is own some h.0 h.1

idle_none : (g : Option FrameValue) (n : ℕ) → n ≡ 0 → IsIdle g n
idle_none None n none = none
idle_none (Some f) n none = tt

-- the row was not put, or in part alone
pub torn_stands :
    (kinds : List Kind) (pool : PoolName) (items after : List Sealed) (f g : Option FrameValue) (ends more : ℕ) (rows : List Row) (bytes : List ℕ)
    (s : Stands kinds pool items f ends rows) → (ends ≡ 0 → s.begun ++ frame_bytes f ≡ []) → IsFilled f
    → IsFrameIn pool g → IsTorn pool items f ends after g more bytes
    → Stands kinds pool after g more rows
torn_stands kinds pool items after f g ends more rows bytes s whole filled own (inl h) =
    let P : List Sealed → Type 0 = λ xs. Stands kinds pool xs f ends rows in
    let Q : Option FrameValue → Type 0 = λ x. Stands kinds pool after x ends rows in
    let R : ℕ → Type 0 = λ n. Stands kinds pool after g n rows in
    subst R (sym h.2) (subst Q (sym h.1) (subst P (sym h.0) s))
torn_stands kinds pool items after f g ends more rows bytes s whole filled own (inr h) =
    let w = whole_after kinds pool items f ends rows s whole filled in
    let l = longer_after kinds pool (items ++ sealed_of f ends) after rows h.0 bytes w h.1 in
    record {
      done = rows;
      last = [];
      begun = joined h.1.long;
      sealed = l.sealed;
      frame = own;
      idle = idle_none g more h.2;
      parts = l.parts;
      piece = no_rows kinds (joined h.1.long) (record { bytes = frame_bytes g; ends = more }) h.2;
      all = sym (append-nil rows);
    }

-- what a call left
pub record Left (pool : PoolName) (v : Inside) (rows : List Row) : Type 0 where
  pub writer : IsWriter v
  pub rows_are : rows_written v ≡ rows
  pub own : IsWriterOf pool (writer_value v)

-- what a list without blocks is of, as of any other pool
no_pool : PoolName
no_pool = record { turn = record { words = 0; slots = 0; views_name = 0; atom = 0; block = 0; offset = 0; slot_names = [] }; opening = no_opening }

pub empty_writer :
    (w : Inside) → w.sealed.items ≡ [] → w.frame ≡ None → w.ends ≡ 0 → w.rows ≡ 0 → w.bytes ≡ 0 → w.limit ≤ 2 ^ 40
    → 0 < length (kind_list w.kinds) → length (kind_list w.kinds) ≤ 6 → IsWriter w
empty_writer w items frame ends rows bytes most some_kinds most_kinds =
    let pool : PoolName = no_pool in
    let P : List Sealed → Type 0 = λ xs. AllSealedIn pool xs in
    let Q : List Sealed → Type 0 = λ xs. AreIn (kind_list w.kinds) [] (pieces xs) [] [] in
    let R : Option FrameValue → Type 0 = λ f. IsFrameIn pool f in
    let S : Option FrameValue → Type 0 = λ f. IsIdle f w.ends in
    let T : Option FrameValue → Type 0 = λ f. IsFilled f in
    record {
      pool = pool;
      rows_are = [];
      stands = record {
        done = [];
        last = [];
        begun = [];
        sealed = subst P (sym items) tt;
        frame = subst R (sym frame) tt;
        idle = subst S (sym frame) ends;
        parts = subst Q (sym items) (refl, refl);
        piece = no_rows (kind_list w.kinds) [] (last_piece w) ends;
        all = refl;
      };
      whole = λ _ _. ap frame_bytes frame;
      filled = λ _. subst T (sym frame) tt;
      are = tt;
      rows = rows;
      bytes = bytes;
      some_kinds = some_kinds;
      most_kinds = most_kinds;
      limit = omega (arith, rows);
      most = most;
    }

pub empty_rows :
    (w : Inside) → w.sealed.items ≡ [] → w.frame ≡ None → w.ends ≡ 0 → w.rows ≡ 0 → w.bytes ≡ 0 → w.limit ≤ 2 ^ 40
    → 0 < length (kind_list w.kinds) → length (kind_list w.kinds) ≤ 6 → rows_written w ≡ []
unfolding empty_writer
empty_rows w items frame ends rows bytes most some_kinds most_kinds = written_rows w (empty_writer w items frame ends rows bytes most some_kinds most_kinds)

-- the facts that a put needs, at the hand's pool
pub record Ready (kinds : List Kind) (pool : PoolName) (items : List Sealed) (f : Option FrameValue) (ends : ℕ) (rows : List Row) : Type 0 where
  pub stands : Stands kinds pool items f ends rows
  pub whole : ends ≡ 0 → stands.begun ++ frame_bytes f ≡ []
  pub filled : IsFilled f

move_pool : (old pool : PoolName) (items : List Sealed) → AllSealedIn old items → AllByRecursion (λ (b : BlockValue). b.pool ≡ pool) (blocks_of items) → AllSealedIn pool items
move_pool old pool [] h own = tt
move_pool old pool (x ∷ xs) h own = (record { of_pool = own.0; len = h.0.len; some = h.0.some }, move_pool old pool xs h.1 own.1)

pub blocks_own : (pool : PoolName) (items : List Sealed) → AllSealedIn pool items → AllByRecursion (λ (b : BlockValue). b.pool ≡ pool) (blocks_of items)
blocks_own pool [] h = tt
blocks_own pool (x ∷ xs) h = (h.0.of_pool, blocks_own pool xs h.1)

pub blocks_all : (pool : PoolName) (items : List Sealed) → AllSealedIn pool items → AreOfPool pool (blocks_of items)
blocks_all pool items h = All-from_recursion (λ (b : BlockValue). b.pool ≡ pool) (blocks_of items) (blocks_own pool items h)

pub ready : (w : Inside) (pool : PoolName) (i : IsWriter w) → w.broken ≡ false → IsWriterOf pool (writer_value w) → Ready (kind_list w.kinds) pool w.sealed.items w.frame w.ends i.rows_are
ready w pool i unbroken own = record {
  stands = record {
    done = i.stands.done;
    last = i.stands.last;
    begun = i.stands.begun;
    sealed = move_pool i.pool pool w.sealed.items i.stands.sealed (recursion_from_All (λ (b : BlockValue). b.pool ≡ pool) (blocks_of w.sealed.items) own.blocks);
    frame = own.frame;
    idle = i.stands.idle;
    parts = i.stands.parts;
    piece = i.stands.piece;
    all = i.stands.all;
  };
  whole = i.whole unbroken;
  filled = i.filled unbroken;
}

pub filled_so : (g : Option FrameValue) → 0 < length (frame_bytes g) → IsFilled g
filled_so None some = tt
filled_so (Some f) some = some

field_some : (kind : Kind) (bytes : List ℕ) (cell : Cell) → IsField kind bytes cell → 0 < length bytes
field_some Int bytes (int n) f = rw f.1 (omega (arith, length-bytes_of_u64 n))
field_some Int bytes (text t) f = absurd f
field_some Text bytes (int n) f = absurd f
field_some Text bytes (text t) f = rw f.1 (omega (arith, length-append (bytes_of_u32 (length t)) t, length-bytes_of_u32 (length t)))

pub row_some : (kinds : List Kind) (bytes : List ℕ) (row : Row) → 0 < length kinds → IsRow kinds bytes row → 0 < length bytes
row_some [] bytes row some h = absurd (omega (arith, some))
row_some (kind ∷ kinds) bytes row some h =
    omega (arith, ap (λ (xs : List ℕ). length xs) h.7, length-append h.2 h.3, field_some kind h.2 h.0 h.4)

pub pushed :
    (w v : Inside) (pool : PoolName) (row : Row) (bytes : List ℕ) (more : ℕ)
    → IsWriter w → w.broken ≡ false → IsWriterOf pool (writer_value w) → w.rows ≢ w.limit → IsRow (kind_list w.kinds) bytes row
    → IsFrameIn pool v.frame → 0 < length (frame_bytes v.frame)
    → IsPut pool w.sealed.items w.frame w.ends v.sealed.items v.frame more bytes
    → v.kinds ≡ w.kinds → v.limit ≡ w.limit → v.rows ≡ w.rows + 1 → v.bytes ≡ w.bytes + length bytes → v.ends ≡ more + 1
    → Left pool v (rows_written w ++ row ∷ [])
pushed w v pool row bytes more i unbroken own room is frame some put kinds limit rows size ends =
    let r = ready w pool i unbroken own in
    let same : kind_list w.kinds ≡ kind_list v.kinds = ap kind_list (sym kinds) in
    let one : Stands (kind_list w.kinds) pool v.sealed.items v.frame (more + 1) (i.rows_are ++ row ∷ []) =
    put_stands (kind_list w.kinds) pool w.sealed.items v.sealed.items w.frame v.frame w.ends more i.rows_are row bytes r.stands r.whole r.filled is frame some put in
    let P : List Kind → Type 0 = λ ks. Stands ks pool v.sealed.items v.frame v.ends (i.rows_are ++ row ∷ []) in
    let Q : ℕ → Type 0 = λ n. Stands (kind_list w.kinds) pool v.sealed.items v.frame n (i.rows_are ++ row ∷ []) in
    let R : List Kind → Type 0 = λ ks. AreOf ks (i.rows_are ++ row ∷ []) in
    let S : List Kind → Type 0 = λ ks. 0 < length ks in
    let T : List Kind → Type 0 = λ ks. length ks ≤ 6 in
    let stands = subst P same (subst Q (sym ends) one) in
    let writer : IsWriter v = record {
      pool = pool;
      rows_are = i.rows_are ++ row ∷ [];
      stands = stands;
      whole = λ _ none. absurd (omega (arith, none, ends));
      filled = λ _. filled_so v.frame some;
      are = subst R same (are-append (kind_list w.kinds) i.rows_are (row ∷ []) i.are (is_spelled (kind_list w.kinds) bytes row is, tt));
      rows = omega (arith, rows, i.rows, length-append i.rows_are (row ∷ []));
      bytes = size ∙ ap (λ (n : ℕ). n + length bytes) i.bytes ∙ ap (λ (xs : List ℕ). length (encoded i.rows_are) + length xs) (spelled_is (kind_list w.kinds) bytes row is)
          ∙ ap (λ (xs : List ℕ). length (encoded i.rows_are) + length xs) (sym (encoded-one row))
          ∙ sym (length-append (encoded i.rows_are) (encoded (row ∷ []))) ∙ ap (λ (xs : List ℕ). length xs) (sym (encoded-append i.rows_are (row ∷ [])));
      some_kinds = subst S same i.some_kinds;
      most_kinds = subst T same i.most_kinds;
      limit = omega (arith, rows, limit, i.limit, room);
      most = omega (arith, limit, i.most);
    } in
    record {
      writer = writer;
      rows_are = written_rows v writer ∙ ap (λ (rs : List Row). rs ++ row ∷ []) (sym (written_rows w i));
      own = record { blocks = blocks_all pool v.sealed.items stands.sealed; frame = frame };
    }

pub torn :
    (w v : Inside) (pool : PoolName) (bytes : List ℕ)
    → IsWriter w → w.broken ≡ false → IsWriterOf pool (writer_value w)
    → IsFrameIn pool v.frame
    → IsTorn pool w.sealed.items w.frame w.ends v.sealed.items v.frame v.ends bytes
    → v.kinds ≡ w.kinds → v.limit ≡ w.limit → v.rows ≡ w.rows → v.bytes ≡ w.bytes → v.broken ≡ true
    → Left pool v (rows_written w)
torn w v pool bytes i unbroken own frame tear kinds limit rows size broken =
    let r = ready w pool i unbroken own in
    let same : kind_list w.kinds ≡ kind_list v.kinds = ap kind_list (sym kinds) in
    let one : Stands (kind_list w.kinds) pool v.sealed.items v.frame v.ends i.rows_are =
    torn_stands (kind_list w.kinds) pool w.sealed.items v.sealed.items w.frame v.frame w.ends v.ends i.rows_are bytes r.stands r.whole r.filled frame tear in
    let P : List Kind → Type 0 = λ ks. Stands ks pool v.sealed.items v.frame v.ends i.rows_are in
    let R : List Kind → Type 0 = λ ks. AreOf ks i.rows_are in
    let S : List Kind → Type 0 = λ ks. 0 < length ks in
    let T : List Kind → Type 0 = λ ks. length ks ≤ 6 in
    let stands = subst P same one in
    let writer : IsWriter v = record {
      pool = pool;
      rows_are = i.rows_are;
      stands = stands;
      whole = λ unbroken. absurd (cc (broken, unbroken));
      filled = λ unbroken. absurd (cc (broken, unbroken));
      are = subst R same i.are;
      rows = rows ∙ i.rows;
      bytes = size ∙ i.bytes;
      some_kinds = subst S same i.some_kinds;
      most_kinds = subst T same i.most_kinds;
      limit = omega (arith, rows, limit, i.limit);
      most = omega (arith, limit, i.most);
    } in
    record {
      writer = writer;
      rows_are = written_rows v writer ∙ sym (written_rows w i);
      own = record { blocks = blocks_all pool v.sealed.items stands.sealed; frame = frame };
    }

-- the sum of the rows' lengths fits
pub bytes_fit : (w : Inside) (n : ℕ) → IsWriter w → w.rows ≢ w.limit → n ≤ longest_row → w.bytes + n < 2 ^ 64
bytes_fit w n i room short =
    let sum = encoded_short (kind_list w.kinds) i.rows_are i.most_kinds i.are in
    omega (arith, i.bytes, i.rows, i.limit, i.most, room, short, sum)

pub rows_length : (w : Inside) (x : WriterValue) → IsWriter w → writer_value w ≡ x → length x.rows ≡ w.rows
rows_length w x i e = ap (λ (y : WriterValue). length y.rows) (sym e) ∙ ap (λ (rs : List Row). length rs) (written_rows w i) ∙ sym i.rows

-- Writers that end, and readers that begin and end.
use Rattle.std.proofs.Common.{◌≡◌, ℕ, Bool, false, List, [], ◌++◌, length, take, drop, Option, None, sym, ap, subst, ◌∙◌, append-nil, Global, arith}
use Rattle.std.proofs.lemmas.List.{take_at, drop_at}
use Rattle.std.specs.declared.collections.VecDeque.{VecDeque}
use Rattle.std.specs.VecDeque.{deque_len}
use Rattle.row_defs.specs.declared.kind.Kind.{Kind}
use Rattle.row_defs.specs.Rows.{Row}
use Rattle.dia_item.specs.KindList.{kind_list}
use Rattle.block_pool.specs.Handles.{PoolName, FrameValue, AreOfPool}
use Rattle.dia_file.specs.declared.sealed.Sealed.{Sealed}
use Rattle.dia_file.specs.declared.place.Held.{Held}
use Rattle.dia_file.specs.declared.place.After.TheVariants.{Keep}
use Rattle.dia_file.specs.declared.place.Place.{Place}
use Rattle.dia_file.specs.declared.writer.FileWriter.TheInside as writers
use Rattle.dia_file.specs.declared.keep.KeepReader.TheInside as readers
use Rattle.dia_file.specs.Pieces.{AreIn}
use Rattle.dia_file.specs.Frames.{pieces, blocks_of, AllSealedIn, IsFilled, sealed_of, frame_bytes}
use Rattle.dia_file.specs.Writers.{writer_value, rows_written, IsWriterOf, Stands, IsWriter}
use Rattle.dia_file.specs.Files.{rows_stored, IsStored}
use Rattle.dia_file.specs.Places.{at_spot, held_list, pins, ahead_items, file_items, rows_left, IsHeld, IsPlaced, Telling}
use Rattle.dia_file.specs.Readers.{spot, IsReading, IsKeeper}
use Rattle.dia_file.proofs.WriterLemmas.{written_rows, whole_after, ready, blocks_all}
use Rattle.dia_file.proofs.FileLemmas.{stored_rows}
use Rattle.dia_file.proofs.PlaceLemmas.{IsHidden, rest_telling}
use Rattle.dia_file.proofs.Steps.{left_told}

-- the file of a writer's rows
pub record Finished (w : writers.Inside) (pool : PoolName) (items : List Sealed) : Type 0 where
  pub stored : IsStored (kind_list w.kinds) items w.rows w.bytes
  pub rows : rows_stored (kind_list w.kinds) items ≡ rows_written w
  pub own : AreOfPool pool (blocks_of items)

pub finished :
    (w : writers.Inside) (pool : PoolName) (items : List Sealed) → IsWriter w → w.broken ≡ false → IsWriterOf pool (writer_value w)
    → items ≡ w.sealed.items ++ sealed_of w.frame w.ends → Finished w pool items
finished w pool items i unbroken own e =
    let r = ready w pool i unbroken own in
    let all = whole_after (kind_list w.kinds) pool w.sealed.items w.frame w.ends i.rows_are r.stands r.whole r.filled in
    let P : List Sealed → Type 0 = λ xs. AllSealedIn pool xs in
    let Q : List Sealed → Type 0 = λ xs. AreIn (kind_list w.kinds) [] (pieces xs) i.rows_are [] in
    let sealed = subst P (sym e) all.sealed in
    let stored : IsStored (kind_list w.kinds) items w.rows w.bytes = record {
      pool = pool;
      rows_are = i.rows_are;
      sealed = sealed;
      parts = subst Q (sym e) all.parts;
      are = i.are;
      rows = i.rows;
      bytes = i.bytes;
      some_kinds = i.some_kinds;
      most_kinds = i.most_kinds;
    } in
    record {
      stored = stored;
      rows = stored_rows (kind_list w.kinds) items w.rows w.bytes stored ∙ sym (written_rows w i);
      own = blocks_all pool items sealed;
    }

-- a writer whose blocks and frame came back
pub again :
    (w v : writers.Inside) → v.kinds ≡ w.kinds → v.limit ≡ w.limit → v.rows ≡ w.rows → v.bytes ≡ w.bytes → v.ends ≡ w.ends → v.broken ≡ w.broken
    → v.sealed.items ≡ w.sealed.items → v.frame ≡ w.frame → writer_value v ≡ writer_value w
unfolding rows_written
again w v kinds limit rows bytes ends broken items frame =
    let k : kind_list v.kinds ≡ kind_list w.kinds = ap kind_list kinds in
    cc (k, limit, rows, bytes, ends, broken, items, frame)

-- a place in front of all blocks
pub record Begins (p : Place) : Type 0 where
  pub hidden : IsHidden p
  pub ahead : p.ahead ≡ deque_len p.ring
  pub at : p.at ≡ 0
  pub kept : p.kept ≡ 0

all_taken : (xs : List Sealed) (n : ℕ) → n ≡ length xs → take n xs ≡ xs
all_taken xs n e = ap (λ (ys : List Sealed). take n ys) (sym (append-nil xs)) ∙ take_at xs [] n (sym e)

none_dropped : (xs : List Sealed) (n : ℕ) → n ≡ length xs → drop n xs ≡ []
none_dropped xs n e = ap (λ (ys : List Sealed). drop n ys) (sym (append-nil xs)) ∙ drop_at xs [] n (sym e)

pub begins_ahead : (p : Place) → Begins p → ahead_items p ≡ p.ring.items
begins_ahead p b = let ok = p.ring.ok.0 in all_taken p.ring.items p.ahead (b.ahead ∙ ok)

pub begins_file : (p : Place) → Begins p → file_items p ≡ p.ring.items
begins_file p b =
    let ok = p.ring.ok.0 in
    ap (λ (xs : List Sealed). xs ++ (held_list p.shown ++ ahead_items p)) (none_dropped p.ring.items p.ahead (b.ahead ∙ ok))
    ∙ ap (λ (o : Option Held). held_list o ++ ahead_items p) b.hidden.shown ∙ begins_ahead p b

-- a reader that begins has all rows before it
pub record HasBegun (kinds : List Kind) (p : Place) (rows : List Row) : Type 0 where
  pub reading : IsReading kinds p
  pub file : file_items p ≡ p.ring.items
  pub left : rows_left kinds p ≡ rows

pub has_begun :
    (kinds : List Kind) (p : Place) (items : List Sealed) (n size : ℕ) → IsStored kinds items n size → Begins p → p.ring.items ≡ items
    → HasBegun kinds p (rows_stored kinds items)
has_begun kinds p items n size i b e =
    let P : List Sealed → Type 0 = λ xs. AllSealedIn i.pool xs in
    let ring = p.ring.ok.0 in
    let small = p.ring.small.1 in
    let ahead : ahead_items p ≡ items = begins_ahead p b ∙ e in
    let none : drop p.ahead p.ring.items ≡ [] = none_dropped p.ring.items p.ahead (b.ahead ∙ ring) in
    let hidden : pins p.shown ≡ 0 = ap pins b.hidden.shown in
    let N : Option Held → Type 0 = λ o. IsHeld i.pool o in
    let R : List Sealed → Type 0 = λ xs. AreIn kinds [] (pieces xs) i.rows_are [] in
    let S : List ℕ → Type 0 = λ bs. AreIn kinds bs (pieces (ahead_items p)) i.rows_are [] in
    let begun : take p.kept p.buffer.items ≡ [] = ap (λ (n : ℕ). take n p.buffer.items) b.kept in
    let telling : Telling kinds p i.rows_are = rest_telling kinds p i.rows_are b.hidden (subst S (sym begun) (subst R (sym ahead) i.parts)) in
    record {
      reading = record {
        pool = i.pool;
        placed = record {
          ahead = omega (arith, b.ahead);
          room = omega (arith, hidden, small);
          sealed = subst P (sym ahead) i.sealed;
          behind = subst P (sym none) tt;
          held = subst N (sym b.hidden.shown) tt;
          at = omega (arith, b.at);
          some = λ some. absurd (omega (arith, some, b.hidden.here));
          kept = omega (arith, b.kept);
          short = omega (arith, b.kept);
          space = λ some. absurd (omega (arith, some, b.kept));
          freed = λ _. none;
        };
        told = λ _. (i.rows_are, telling);
        alone = λ _. b.kept;
        most = i.most_kinds;
      };
      file = begins_file p b;
      left = left_told kinds p i.rows_are telling ∙ sym (stored_rows kinds items n size i);
    }

-- the keeping reader that begins
pub record Opened (r : readers.Inside) (rows : List Row) : Type 0 where
  pub keeping_on : IsKeeper r
  pub left : rows_left (kind_list r.kinds) (spot r) ≡ rows

pub opened :
    (r : readers.Inside) (items : List Sealed) → IsStored (kind_list r.kinds) items r.rows r.bytes → Begins (spot r) → r.place.after ≡ Keep → r.place.ring.items ≡ items
    → Opened r (rows_stored (kind_list r.kinds) items)
opened r items i b keeps e =
    let h = has_begun (kind_list r.kinds) (spot r) items r.rows r.bytes i b e in
    let Q : List Sealed → Type 0 = λ xs. IsStored (kind_list r.kinds) xs r.rows r.bytes in
    record {
      keeping_on = record { reading = h.reading; stored = subst Q (sym (h.file ∙ e)) i; keeps = keeps };
      left = h.left;
    }

-- the place of a reader that ends
pub reset : (pool : PoolName) (p : Place) (a h k : ℕ) → IsPlaced pool (at_spot p a h k) → IsPlaced pool (at_spot p 0 0 0)
reset pool p a h k i = record {
  ahead = i.ahead;
  room = i.room;
  sealed = i.sealed;
  behind = i.behind;
  held = i.held;
  at = omega arith;
  some = λ some. absurd (omega (arith, some));
  kept = omega arith;
  short = omega arith;
  space = λ some. absurd (omega (arith, some));
  freed = i.freed;
}

pub turned : (p : Place) (items : List Sealed) → p.shown ≡ None → items ≡ drop p.ahead p.ring.items ++ take p.ahead p.ring.items → items ≡ file_items p
turned p items hidden e = e ∙ ap (λ (o : Option Held). drop p.ahead p.ring.items ++ (held_list o ++ ahead_items p)) (sym hidden)

record Core (kinds : List Kind) (ends : ℕ) (broken : Bool) (rows : List Row) (items : List Sealed) (f : Option FrameValue) : Type 0 where
  pool : PoolName
  stands : Stands kinds pool items f ends rows
  whole : broken ≡ false → ends ≡ 0 → stands.begun ++ frame_bytes f ≡ []
  filled : broken ≡ false → IsFilled f

-- a writer whose blocks and frame came back is one still
pub writer_again : (w : writers.Inside) (s : VecDeque Sealed Global) (f : Option FrameValue) → IsWriter w → s.items ≡ w.sealed.items → f ≡ w.frame → IsWriter (record w { sealed = s; frame = f })
writer_again w s f i items frame =
    let first : Core (kind_list w.kinds) w.ends w.broken i.rows_are w.sealed.items w.frame = record { pool = i.pool; stands = i.stands; whole = i.whole; filled = i.filled } in
    let P : List Sealed → Type 0 = λ xs. Core (kind_list w.kinds) w.ends w.broken i.rows_are xs w.frame in
    let Q : Option FrameValue → Type 0 = λ g. Core (kind_list w.kinds) w.ends w.broken i.rows_are s.items g in
    let c = subst Q (sym frame) (subst P (sym items) first) in
    record {
      pool = c.pool;
      rows_are = i.rows_are;
      stands = c.stands;
      whole = c.whole;
      filled = c.filled;
      are = i.are;
      rows = i.rows;
      bytes = i.bytes;
      some_kinds = i.some_kinds;
      most_kinds = i.most_kinds;
      limit = i.limit;
      most = i.most;
    }

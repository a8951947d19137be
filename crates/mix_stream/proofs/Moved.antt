-- What is left of each sender, from step to step.
use Rattle.std.proofs.Common.{◌≡◌, ◌≢◌, ℕ, ◌<◌, Bool, true, cond, List, [], ◌∷◌, ◌++◌, length, take, drop, refl, sym, ap, ◌∙◌, subst, append_assoc, length-append, eq-eqb, ne_eqb, arith}
use Rattle.std.specs.Prelude.{◌==◌, Option, Some, None}
use Rattle.std.proofs.Math.Seq.{drop-length}
use Rattle.row_defs.specs.Rows.{Row, IsRow}
use Rattle.dia_item.specs.KindList.{kind_list}
use Rattle.block_pool.specs.Handles.{PoolName}
use Rattle.dia_file.specs.Encoding.{spelled}
use Rattle.mix_stream.specs.Packets.{bytes_from, sender_of, first_sender, Rises}
use Rattle.mix_stream.specs.Reading.{Reading, Stays, IsDamaged, StartsNoRow, bytes_of}
use Rattle.mix_stream.specs.Streams.{shown_bytes, left_of, reading_of, IsInside, IsSameBut, Gives}
use Rattle.mix_stream.specs.Moving.{IsRead, IsMoved, GivesNext}
use Rattle.mix_stream.specs.declared.stream.Stream.{Stream}
use Rattle.mix_stream.specs.declared.stream.RowPlace.{RowPlace}
use Rattle.mix_stream.proofs.Finding.{of_open}

pub stays_is : (pool : PoolName) (xs ys : List ℕ) → ys ≡ xs → Stays pool xs ys
stays_is pool xs ys e = record { count = ap length e; told = λ _. e }

pub stays_then : (pool : PoolName) (xs ys zs : List ℕ) → Stays pool xs ys → Stays pool ys zs → Stays pool xs zs
stays_then pool xs ys zs h k = record { count = k.count ∙ h.count; told = λ t. k.told t ∙ h.told t }

pub stays_append : (pool : PoolName) (xs ys zs : List ℕ) → Stays pool xs ys → Stays pool (xs ++ zs) (ys ++ zs)
stays_append pool xs ys zs h = let c = h.count in record { count = omega (arith, length-append xs zs, length-append ys zs, c); told = λ t. ap (λ (l : List ℕ). l ++ zs) (h.told t) }

pub stays_behind : (pool : PoolName) (xs ys zs : List ℕ) → Stays pool xs ys → Stays pool (zs ++ xs) (zs ++ ys)
stays_behind pool xs ys zs h = let c = h.count in record { count = omega (arith, length-append zs xs, length-append zs ys, c); told = λ t. ap (λ (l : List ℕ). zs ++ l) (h.told t) }

pub moved_refl : (pool : PoolName) (r : Reading) → IsMoved pool r r
moved_refl pool r = record { kinds = refl; same = λ k. stays_is pool (bytes_of k r) (bytes_of k r) refl; turn_is = refl; rises = λ h. h }

pub moved_then : (pool : PoolName) (a b c : Reading) → IsMoved pool a b → IsMoved pool b c → IsMoved pool a c
moved_then pool a b c h k = record {
  kinds = k.kinds ∙ h.kinds;
  same = λ j. stays_then pool (bytes_of j a) (bytes_of j b) (bytes_of j c) (h.same j) (k.same j);
  turn_is = k.turn_is ∙ h.turn_is;
  rises = λ r. k.rises (h.rises r);
}

pub same_moved : (pool : PoolName) (s t : Stream) → IsSameBut s t → IsMoved pool (reading_of s) (reading_of t)
same_moved pool s t h = record {
  kinds = ap kind_list h.kinds;
  same = λ k. stays_is pool (bytes_of k (reading_of s)) (bytes_of k (reading_of t)) (λ i. cond (h.from i == k) (h.left i) [] ++ bytes_from k (h.packets i).items);
  turn_is = λ i. sender_of (h.left i) (h.from i) (first_sender (h.packets i).items);
  rises = λ r. subst (λ (k : ℕ). Rises k t.packets.items) (sym h.from) (subst (λ (x : _). Rises s.from x.items) (sym h.packets) r);
}

-- the stream once its block is freed
abbrev pub closed : Stream → Stream
closed s = record s { shown = None; at = 0 }

closed_left : (s : Stream) → IsRead s → left_of (closed s) ≡ left_of s
closed_left s read = ap (λ (l : List ℕ). take s.pending s.buffer.items ++ l) (sym (ap (λ (n : ℕ). drop n (shown_bytes s.shown)) read ∙ drop-length (shown_bytes s.shown)))

pub closed_moved : (pool : PoolName) (s : Stream) → IsRead s → IsMoved pool (reading_of s) (reading_of (closed s))
closed_moved pool s read = let e = closed_left s read in record {
  kinds = refl;
  same = λ k. stays_is pool (bytes_of k (reading_of s)) (bytes_of k (reading_of (closed s))) (λ i. cond (s.from == k) (e i) [] ++ bytes_from k s.packets.items);
  turn_is = λ i. sender_of (e i) s.from (first_sender s.packets.items);
  rises = λ r. r;
}

pub closed_inside : (s : Stream) → IsInside s → IsInside (closed s)
closed_inside s h = record { at = omega arith; pending = h.pending; short = h.short; begun = h.begun }

pub sender_some : (l : List ℕ) (k : ℕ) (rest : Option ℕ) → 0 < length l → sender_of l k rest ≡ Some k
sender_some [] k rest some = absurd (omega arith)
sender_some (b ∷ bs) k rest some = refl

pub sender_long : (xs ys : List ℕ) (k : ℕ) (rest : Option ℕ) → length ys ≡ length xs → sender_of ys k rest ≡ sender_of xs k rest
sender_long [] [] k rest e = refl
sender_long [] (y ∷ ys) k rest e = absurd (omega (arith, e))
sender_long (x ∷ xs) [] k rest e = absurd (omega (arith, e))
sender_long (x ∷ xs) (y ∷ ys) k rest e = refl

of_others : (s : Stream) (j : ℕ) → s.from ≢ j → bytes_of j (reading_of s) ≡ bytes_from j s.packets.items
of_others s j n = ap (λ (c : Bool). cond c (left_of s) [] ++ bytes_from j s.packets.items) (ne_eqb s.from j n)

-- the row is the next one of the sender whose packet is read
pub gives_next : (pool : PoolName) (s : Stream) (place : RowPlace) (t : Stream) → Gives s place t → GivesNext pool (reading_of s) place t
gives_next pool s place t h =
    let row : Row = h.row in
    let first = spelled row in
    let rest = bytes_from t.from t.packets.items in
    let some = h.some in
    let old : bytes_of t.from (reading_of s) ≡ left_of s ++ bytes_from t.from s.packets.items = ap (λ (c : Bool). cond c (left_of s) [] ++ bytes_from t.from s.packets.items) (eq-eqb s.from t.from (sym h.from)) in
    let both : left_of s ++ bytes_from t.from s.packets.items ≡ (first ++ left_of t) ++ rest = λ i. h.left i ++ bytes_from t.from (sym h.packets i).items in
    record {
      row = row;
      lies = h.lies;
      next = record {
        turn_is = sender_some (left_of s) s.from (first_sender s.packets.items) (omega (arith, ap length h.left, length-append first (left_of t), some)) ∙ ap Some (sym h.from);
        is_row = h.is_row;
        read = stays_is pool _ _ (sym (old ∙ both ∙ append_assoc first (left_of t) rest ∙ ap (λ (l : List ℕ). first ++ l) (sym (of_open t))));
        others = λ j n. stays_is pool _ _ (of_others t j (λ e. n (sym e)) ∙ (λ i. bytes_from j (h.packets i).items) ∙ sym (of_others s j (λ e. n (sym (h.from ∙ e)))));
      };
    }

pub gives_rising : (s : Stream) (place : RowPlace) (t : Stream) → Gives s place t → Rises s.from s.packets.items → Rises t.from t.packets.items
gives_rising s place t h r = subst (λ (k : ℕ). Rises k t.packets.items) (sym h.from) (subst (λ (x : _). Rises s.from x.items) (sym h.packets) r)

pub next_then : (pool : PoolName) (r s : Reading) (place : RowPlace) (t : Stream) → IsMoved pool r s → GivesNext pool s place t → GivesNext pool r place t
next_then pool r s place t h g = let n = g.next in record {
  row = g.row;
  lies = g.lies;
  next = record {
    turn_is = sym h.turn_is ∙ n.turn_is;
    is_row = subst (λ (l : List _). IsRow l (spelled g.row) g.row) h.kinds n.is_row;
    read = stays_then pool _ _ _ (h.same t.from) n.read;
    others = λ j ne. stays_then pool _ _ _ (h.same j) (n.others j ne);
  };
}

pub damaged_then : (pool : PoolName) (a b : Reading) → IsMoved pool a b → pool.opening.tells ≡ true → IsDamaged b → IsDamaged a
damaged_then pool a b h told d =
    let e : bytes_of d.0 b ≡ bytes_of d.0 a = (h.same d.0).told told in
    (d.0, subst (λ (l : List ℕ). 0 < length l) e d.1, subst (λ (l : List ℕ). StartsNoRow a.kinds l) e (subst (λ (l : List _). StartsNoRow l (bytes_of d.0 b)) h.kinds d.2))

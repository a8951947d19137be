-- Moves of a place.
use Rattle.std.proofs.Common.{◌≡◌, ℕ, zero, suc, ◌+◌, ◌≤◌, ◌<◌, true, List, [], ◌∷◌, ◌++◌, length, take, drop, Option, None, Some, refl, sym, ap, subst, ◌∙◌, append-nil, length-append, length-take, zero-add, vec_len, vec_capacity, arith}
use Rattle.std.proofs.lemmas.List.{take-append-le, drop-append-le, take_at, length-take-le}
use Rattle.std.proofs.lemmas.List.Sums.{sum_by-append}
use Rattle.std.specs.List.{sum_by}
use Rattle.std.specs.VecDeque.{deque_len, deque_capacity}
use Rattle.row_defs.specs.declared.kind.Kind.{Kind}
use Rattle.row_defs.specs.Rows.{Row}
use Rattle.dia_item.specs.declared.kinds.Kinds.{Kinds}
use Rattle.dia_item.specs.KindList.{kind_list}
use Rattle.dia_item.specs.Sizes.{longest_row}
use Rattle.block_pool.specs.Handles.{PoolName}
use Rattle.dia_file.specs.declared.sealed.Sealed.{Sealed}
use Rattle.dia_file.specs.declared.place.After.{After}
use Rattle.dia_file.specs.declared.place.After.TheVariants.{Free}
use Rattle.dia_file.specs.declared.place.Held.{Held}
use Rattle.dia_file.specs.declared.place.Place.{Place}
use Rattle.dia_file.specs.Pieces.{Piece, over, AreIn}
use Rattle.dia_file.specs.Frames.{piece_of, pieces, IsSealedIn, AllSealedIn}
use Rattle.dia_file.specs.Places.{sealed_in, held_list, shown_bytes, pins, ahead_items, file_items, begun_at, current, count_left, IsHeldIn, IsHeld, IsPlaced, Telling, Tells, Moved, left_of, Leaves}
use Rattle.dia_file.proofs.PieceLemmas.{no_rows, begun_short}
use Rattle.dia_file.proofs.BehindLemmas.{leaves_same, leaves_trans, leaves_between, leaves_one, left_none, left_sealed}

empty : Piece
empty = record { bytes = []; ends = 0 }

pub few_kinds : (k : Kinds) → length (kind_list k) ≤ 6
few_kinds k = omega (arith, length-take k.count k.all, k.most)

-- a place with nothing pinned and no row begun to be read
abbrev Rests : List Kind → List ℕ → List Piece → List Row → Type 0
Rests kinds b ps rows = AreIn kinds b (record { bytes = []; ends = 0 } ∷ ps) rows []

none_of : (rows : List Row) → length rows ≡ 0 → rows ≡ []
none_of [] e = refl
none_of (r ∷ rows) e = absurd (omega arith)

rest_of : (kinds : List Kind) (b : List ℕ) (ps : List Piece) (rows : List Row) → Rests kinds b ps rows → AreIn kinds b ps rows []
rest_of kinds b ps rows h =
    let none : h.0 ≡ [] = none_of h.0 h.2.len in
    let same : rows ≡ h.1 = h.4 ∙ ap (λ (rs : List Row). rs ++ h.1) none in
    let P : List ℕ → Type 0 = λ xs. AreIn kinds xs ps h.1 [] in
    let Q : List Row → Type 0 = λ rs. AreIn kinds b ps rs [] in
    subst Q (sym same) (subst P (append-nil b) h.3)

to_rest : (kinds : List Kind) (b : List ℕ) (ps : List Piece) (rows : List Row) → AreIn kinds b ps rows [] → Rests kinds b ps rows
to_rest kinds b ps rows h =
    let P : List ℕ → Type 0 = λ xs. AreIn kinds xs ps rows [] in
    ([], rows, no_rows kinds b (record { bytes = []; ends = 0 }) refl, subst P (sym (append-nil b)) h, refl)

past_long : (kinds : List Kind) (b : List ℕ) (s : Sealed) (ps : List Piece) (rows : List Row) → s.ends ≡ 0 → AreIn kinds b (piece_of s ∷ ps) rows [] → AreIn kinds (b ++ s.block.bytes) ps rows []
past_long kinds b s ps rows long h =
    let none : h.0 ≡ [] = none_of h.0 (h.2.len ∙ long) in
    let same : rows ≡ h.1 = h.4 ∙ ap (λ (rs : List Row). rs ++ h.1) none in
    let P : ℕ → Type 0 = λ n. AreIn kinds (over n (b ++ s.block.bytes)) ps h.1 [] in
    let Q : List Row → Type 0 = λ rs. AreIn kinds (b ++ s.block.bytes) ps rs [] in
    subst Q (sym same) (subst P long h.3)

drop_nil : (n : ℕ) → drop {A = ℕ} n [] ≡ []
drop_nil zero = refl
drop_nil (suc n) = refl

shown_none : (n : ℕ) (o : Option Held) → o ≡ None → drop n (shown_bytes o) ≡ []
shown_none n o e = ap (λ (x : Option Held). drop n (shown_bytes x)) e ∙ drop_nil n

-- the pieces at a place where nothing is pinned
pub record IsHidden (p : Place) : Type 0 where
  pub shown : p.shown ≡ None
  pub here : p.here ≡ 0

hidden_current : (p : Place) → IsHidden p → current p ≡ record { bytes = []; ends = 0 }
hidden_current p h = let e : drop p.at (shown_bytes p.shown) ≡ [] = shown_none p.at p.shown h.shown in cc (e, h.here)

pub telling_rest : (kinds : List Kind) (p : Place) (rows : List Row) → IsHidden p → Telling kinds p rows → AreIn kinds (begun_at p) (pieces (ahead_items p)) rows []
telling_rest kinds p rows hidden t =
    let P : Piece → Type 0 = λ x. AreIn kinds (begun_at p) (x ∷ pieces (ahead_items p)) rows [] in
    rest_of kinds (begun_at p) (pieces (ahead_items p)) rows (subst P (hidden_current p hidden) t.are)

pub rest_telling : (kinds : List Kind) (p : Place) (rows : List Row) → IsHidden p → AreIn kinds (begun_at p) (pieces (ahead_items p)) rows [] → Telling kinds p rows
rest_telling kinds p rows hidden h =
    let P : Piece → Type 0 = λ x. AreIn kinds (begun_at p) (x ∷ pieces (ahead_items p)) rows [] in
    record { are = subst P (sym (hidden_current p hidden)) (to_rest kinds (begun_at p) (pieces (ahead_items p)) rows h); done = λ _. shown_none p.at p.shown hidden.shown }

-- the next block was taken off the ring
pub record Takes (a : Place) (s : Sealed) (more : List Sealed) (k : ℕ) : Type 0 where
  pub hidden : IsHidden a
  pub items : a.ring.items ≡ s ∷ more
  pub ahead : a.ahead ≡ suc k

pub taken_ahead : (a : Place) (s : Sealed) (more : List Sealed) (k : ℕ) → Takes a s more k → ahead_items a ≡ s ∷ take k more
taken_ahead a s more k t = ap (λ (xs : List Sealed). take a.ahead xs) t.items ∙ ap (λ (n : ℕ). take n (s ∷ more)) t.ahead

taken_behind : (a : Place) (s : Sealed) (more : List Sealed) (k : ℕ) → Takes a s more k → drop a.ahead a.ring.items ≡ drop k more
taken_behind a s more k t = ap (λ (xs : List Sealed). drop a.ahead xs) t.items ∙ ap (λ (n : ℕ). drop n (s ∷ more)) t.ahead

taken_fits : (pool : PoolName) (a : Place) (s : Sealed) (more : List Sealed) (k : ℕ) → IsPlaced pool a → Takes a s more k → k ≤ length more
taken_fits pool a s more k p t = let e = ap (λ (xs : List Sealed). length xs) t.items in let ok = a.ring.ok.0 in omega (arith, p.ahead, t.ahead, e, ok)

pub taken_sealed : (pool : PoolName) (a : Place) (s : Sealed) (more : List Sealed) (k : ℕ) → IsPlaced pool a → Takes a s more k → AllSealedIn pool (s ∷ take k more)
taken_sealed pool a s more k p t = let P : List Sealed → Type 0 = λ xs. AllSealedIn pool xs in subst P (taken_ahead a s more k t) p.sealed

taken_file : (a : Place) (s : Sealed) (more : List Sealed) (k : ℕ) → Takes a s more k → file_items a ≡ drop k more ++ (s ∷ take k more)
taken_file a s more k t =
    ap (λ (xs : List Sealed). xs ++ (held_list a.shown ++ ahead_items a)) (taken_behind a s more k t)
    ∙ ap (λ (o : Option Held). drop k more ++ (held_list o ++ ahead_items a)) t.hidden.shown
    ∙ ap (λ (xs : List Sealed). drop k more ++ xs) (taken_ahead a s more k t)

taken_count : (a : Place) (s : Sealed) (more : List Sealed) (k : ℕ) → Takes a s more k → count_left a ≡ s.ends + sum_by (λ (x : Sealed). x.ends) (take k more)
taken_count a s more k t =
    let e : sum_by (λ (x : Sealed). x.ends) (ahead_items a) ≡ s.ends + sum_by (λ (x : Sealed). x.ends) (take k more) =
    ap (λ (xs : List Sealed). sum_by (λ (x : Sealed). x.ends) xs) (taken_ahead a s more k t)
    ∙ sum_by-append (λ (x : Sealed). x.ends) (s ∷ []) (take k more) ∙ ap (λ (n : ℕ). n + sum_by (λ (x : Sealed). x.ends) (take k more)) (zero-add s.ends) in
    let zero_here : a.here ≡ 0 = t.hidden.here in
    omega (arith, e, zero_here)

taken_rows : (kinds : List Kind) (a : Place) (s : Sealed) (more : List Sealed) (k : ℕ) (rows : List Row) → Takes a s more k → Telling kinds a rows → AreIn kinds (begun_at a) (piece_of s ∷ pieces (take k more)) rows []
taken_rows kinds a s more k rows t h =
    let P : List Sealed → Type 0 = λ xs. AreIn kinds (begun_at a) (pieces xs) rows [] in
    subst P (taken_ahead a s more k t) (telling_rest kinds a rows t.hidden h)

pub kept_len : (pool : PoolName) (p : Place) → IsPlaced pool p → length (begun_at p) ≡ p.kept
kept_len pool p h = let ok = p.buffer.ok in length-take-le p.kept p.buffer.items (omega (arith, h.kept, ok))

-- a long block that the disk tells fits behind the bytes that were kept
pub long_fits :
    (kinds : List Kind) (pool : PoolName) (a : Place) (s : Sealed) (more : List Sealed) (k : ℕ)
    → length kinds ≤ 6 → IsPlaced pool a → Takes a s more k → s.ends ≡ 0 → Tells kinds pool a → pool.opening.tells ≡ true → a.kept + s.len ≤ longest_row
long_fits kinds pool a s more k most p t long tells told =
    let rows = tells told in
    let past = past_long kinds (begun_at a) s (pieces (take k more)) rows.0 long (taken_rows kinds a s more k rows.0 t rows.1) in
    let short = begun_short kinds (begun_at a ++ s.block.bytes) (pieces (take k more)) rows.0 most past in
    let is = taken_sealed pool a s more k p t in
    omega (arith, short, length-append (begun_at a) s.block.bytes, kept_len pool a p, is.0.len)

-- a long block was copied and put behind
pub record Gathered (pool : PoolName) (a b : Place) (s : Sealed) (more : List Sealed) (k : ℕ) (shown : List ℕ) : Type 0 where
  pub takes : Takes a s more k
  pub long : s.ends ≡ 0
  pub items : b.ring.items ≡ more ++ left_of a.after s
  pub len : (deque_len b.ring ≤ deque_len a.ring) × (deque_len a.ring ≤ deque_len b.ring + 1)
  pub after : b.after ≡ a.after
  pub capacity : deque_capacity b.ring ≡ deque_capacity a.ring
  pub ahead : b.ahead ≡ k
  pub hidden : IsHidden b
  pub at : b.at ≡ a.at
  pub kept : b.kept ≡ a.kept + s.len
  pub fits : a.kept + s.len ≤ longest_row
  pub buffer : b.buffer.items ≡ begun_at a ++ shown
  pub buffer_len : vec_len b.buffer ≡ a.kept + length shown
  pub buffer_room : longest_row ≤ vec_capacity b.buffer
  pub shown_len : length shown ≡ length s.block.bytes
  pub told : pool.opening.tells ≡ true → shown ≡ s.block.bytes

sealed-append : (pool : PoolName) (xs ys : List Sealed) → AllSealedIn pool xs → AllSealedIn pool ys → AllSealedIn pool (xs ++ ys)
sealed-append pool [] ys p q = q
sealed-append pool (x ∷ xs) ys p q = (p.0, sealed-append pool xs ys p.1 q)

gathered_ahead : (pool : PoolName) (a b : Place) (s : Sealed) (more : List Sealed) (k : ℕ) (shown : List ℕ) → IsPlaced pool a → Gathered pool a b s more k shown → ahead_items b ≡ take k more
gathered_ahead pool a b s more k shown p g =
    ap (λ (n : ℕ). take n b.ring.items) g.ahead ∙ ap (λ (xs : List Sealed). take k xs) g.items
    ∙ take-append-le k more (left_of a.after s) (taken_fits pool a s more k p g.takes)

gathered_behind : (pool : PoolName) (a b : Place) (s : Sealed) (more : List Sealed) (k : ℕ) (shown : List ℕ) → IsPlaced pool a → Gathered pool a b s more k shown → drop b.ahead b.ring.items ≡ drop k more ++ left_of a.after s
gathered_behind pool a b s more k shown p g =
    ap (λ (n : ℕ). drop n b.ring.items) g.ahead ∙ ap (λ (xs : List Sealed). drop k xs) g.items
    ∙ drop-append-le k more (left_of a.after s) (taken_fits pool a s more k p g.takes)

pub gathered_placed : (pool : PoolName) (a b : Place) (s : Sealed) (more : List Sealed) (k : ℕ) (shown : List ℕ) → IsPlaced pool a → Gathered pool a b s more k shown → IsPlaced pool b
gathered_placed pool a b s more k shown p g =
    let P : List Sealed → Type 0 = λ xs. AllSealedIn pool xs in
    let all = taken_sealed pool a s more k p g.takes in
    let behind : AllSealedIn pool (drop k more) = subst P (taken_behind a s more k g.takes) p.behind in
    let none : pins b.shown ≡ 0 = ap pins g.hidden.shown in
    let none_a : pins a.shown ≡ 0 = ap pins g.takes.hidden.shown in
    let Q : Option Held → Type 0 = λ o. IsHeld pool o in
    let nil : length (shown_bytes b.shown) ≡ length (shown_bytes a.shown) = ap (λ (o : Option Held). length (shown_bytes o)) (g.hidden.shown ∙ sym g.takes.hidden.shown) in
    record {
      ahead = omega (arith, g.ahead, g.len.1, p.ahead, g.takes.ahead);
      room = omega (arith, none, none_a, g.len.0, g.capacity, p.room);
      sealed = subst P (sym (gathered_ahead pool a b s more k shown p g)) all.1;
      behind = subst P (sym (gathered_behind pool a b s more k shown p g)) (sealed-append pool (drop k more) (left_of a.after s) behind (left_sealed pool a.after s all.0));
      held = subst Q (sym g.hidden.shown) tt;
      at = omega (arith, g.at, nil, p.at);
      some = λ some. absurd (omega (arith, some, g.hidden.here));
      kept = omega (arith, g.kept, g.buffer_len, g.shown_len, all.0.len);
      short = omega (arith, g.kept, g.fits);
      space = λ _. g.buffer_room;
      freed = λ frees.
          let f : a.after ≡ Free = sym g.after ∙ frees in
          gathered_behind pool a b s more k shown p g ∙ left_none a.after (drop k more) s (λ e. sym (taken_behind a s more k g.takes) ∙ p.freed e) f;
    }

gathered_begun :
    (pool : PoolName) (a b : Place) (s : Sealed) (more : List Sealed) (k : ℕ) (shown : List ℕ) → IsPlaced pool a → Gathered pool a b s more k shown → pool.opening.tells ≡ true → begun_at b ≡ begun_at a ++ s.block.bytes
gathered_begun pool a b s more k shown p g told =
    let all = taken_sealed pool a s more k p g.takes in
    let e : b.buffer.items ≡ begun_at a ++ s.block.bytes = g.buffer ∙ ap (λ (xs : List ℕ). begun_at a ++ xs) (g.told told) in
    let len : length (begun_at a ++ s.block.bytes) ≡ b.kept = omega (arith, length-append (begun_at a) s.block.bytes, kept_len pool a p, g.kept, all.0.len) in
    let whole : take b.kept (begun_at a ++ s.block.bytes) ≡ begun_at a ++ s.block.bytes =
    ap (λ (xs : List ℕ). take b.kept xs) (sym (append-nil (begun_at a ++ s.block.bytes))) ∙ take_at (begun_at a ++ s.block.bytes) [] b.kept len in
    ap (λ (xs : List ℕ). take b.kept xs) e ∙ whole

pub gathered_moved : (kinds : List Kind) (pool : PoolName) (a b : Place) (s : Sealed) (more : List Sealed) (k : ℕ) (shown : List ℕ) → IsPlaced pool a → Gathered pool a b s more k shown → Moved kinds pool a b
gathered_moved kinds pool a b s more k shown p g =
    let ahead = gathered_ahead pool a b s more k shown p g in
    record {
      file =
          let now : file_items b ≡ (drop k more ++ left_of a.after s) ++ take k more =
          ap (λ (xs : List Sealed). xs ++ (held_list b.shown ++ ahead_items b)) (gathered_behind pool a b s more k shown p g)
          ∙ ap (λ (o : Option Held). (drop k more ++ left_of a.after s) ++ (held_list o ++ ahead_items b)) g.hidden.shown
          ∙ ap (λ (xs : List Sealed). (drop k more ++ left_of a.after s) ++ xs) ahead in
          leaves_between a.after _ _ _ _ (taken_file a s more k g.takes) now
          (leaves_one a.after (drop k more) (take k more) s (λ e. sym (taken_behind a s more k g.takes) ∙ p.freed e));
      after = g.after;
      count =
          let e : sum_by (λ (x : Sealed). x.ends) (ahead_items b) ≡ sum_by (λ (x : Sealed). x.ends) (take k more) = ap (λ (xs : List Sealed). sum_by (λ (x : Sealed). x.ends) xs) ahead in
          let before = taken_count a s more k g.takes in
          let zero_here : b.here ≡ 0 = g.hidden.here in
          omega (arith, e, zero_here, before, g.long);
      told = λ told rows h.
          let past = past_long kinds (begun_at a) s (pieces (take k more)) rows g.long (taken_rows kinds a s more k rows g.takes h) in
          let P : List ℕ → Type 0 = λ xs. AreIn kinds xs (pieces (take k more)) rows [] in
          let Q : List Sealed → Type 0 = λ xs. AreIn kinds (begun_at b) (pieces xs) rows [] in
          rest_telling kinds b rows g.hidden (subst Q (sym ahead) (subst P (sym (gathered_begun pool a b s more k shown p g told)) past));
    }

-- the next block was pinned
pub record Showed (pool : PoolName) (a b : Place) (s : Sealed) (k : ℕ) (h : Held) : Type 0 where
  pub takes : Takes a s b.ring.items k
  pub ends : 0 < s.ends
  pub len : deque_len b.ring + 1 ≡ deque_len a.ring
  pub capacity : deque_capacity b.ring ≡ deque_capacity a.ring
  pub ahead : b.ahead ≡ k
  pub shown : b.shown ≡ Some h
  pub is : sealed_in h ≡ s
  pub at : b.at ≡ 0
  pub here : b.here ≡ s.ends
  pub buffer : b.buffer ≡ a.buffer
  pub kept : b.kept ≡ a.kept
  pub after : b.after ≡ a.after
  pub shown_len : length h.pinned.shown ≡ length s.block.bytes
  pub told : pool.opening.tells ≡ true → h.pinned.shown ≡ s.block.bytes

showed_ahead : (pool : PoolName) (a b : Place) (s : Sealed) (k : ℕ) (h : Held) → Showed pool a b s k h → ahead_items b ≡ take k b.ring.items
showed_ahead pool a b s k h g = ap (λ (n : ℕ). take n b.ring.items) g.ahead

pub showed_placed : (pool : PoolName) (a b : Place) (s : Sealed) (k : ℕ) (h : Held) → IsPlaced pool a → Showed pool a b s k h → IsPlaced pool b
showed_placed pool a b s k h p g =
    let P : List Sealed → Type 0 = λ xs. AllSealedIn pool xs in
    let all = taken_sealed pool a s b.ring.items k p g.takes in
    let behind : AllSealedIn pool (drop k b.ring.items) = subst P (taken_behind a s b.ring.items k g.takes) p.behind in
    let one : pins b.shown ≡ 1 = ap pins g.shown in
    let none : pins a.shown ≡ 0 = ap pins g.takes.hidden.shown in
    let Q : Option Held → Type 0 = λ o. IsHeld pool o in
    let R : Sealed → Type 0 = λ x. IsSealedIn pool x in
    let S : ℕ → Type 0 = λ n. AllSealedIn pool (drop n b.ring.items) in
    let same_len : h.len ≡ s.len = ap (λ (x : Sealed). x.len) g.is in
    let held : IsHeldIn pool h = record { is_sealed = subst R (sym g.is) all.0; len = g.shown_len ∙ sym all.0.len ∙ sym same_len } in
    let T : List ℕ → Type 0 = λ xs. a.kept ≤ length xs in
    record {
      ahead = omega (arith, g.ahead, g.len, p.ahead, g.takes.ahead);
      room = omega (arith, one, none, g.len, g.capacity, p.room);
      sealed = subst P (sym (showed_ahead pool a b s k h g)) all.1;
      behind = subst S (sym g.ahead) behind;
      held = subst Q (sym g.shown) held;
      at = omega (arith, g.at);
      some = λ _. one;
      kept = rw (g.buffer, g.kept) p.kept;
      short = omega (arith, g.kept, p.short);
      space = λ some. rw g.buffer (p.space (omega (arith, some, g.kept)));
      freed = λ frees. ap (λ (n : ℕ). drop n b.ring.items) g.ahead ∙ sym (taken_behind a s b.ring.items k g.takes) ∙ p.freed (sym g.after ∙ frees);
    }

pub showed_moved : (kinds : List Kind) (pool : PoolName) (a b : Place) (s : Sealed) (k : ℕ) (h : Held) → Showed pool a b s k h → Moved kinds pool a b
showed_moved kinds pool a b s k h g =
    let ahead = showed_ahead pool a b s k h g in
    let more : List Sealed = b.ring.items in
    record {
      file = leaves_same a.after _ _
          (ap (λ (n : ℕ). drop n more ++ (held_list b.shown ++ ahead_items b)) g.ahead
          ∙ ap (λ (o : Option Held). drop k more ++ (held_list o ++ ahead_items b)) g.shown
          ∙ ap (λ (x : Sealed). drop k more ++ (x ∷ ahead_items b)) g.is
          ∙ ap (λ (xs : List Sealed). drop k more ++ (s ∷ xs)) ahead
          ∙ sym (taken_file a s more k g.takes));
      after = g.after;
      count =
          let e : sum_by (λ (x : Sealed). x.ends) (ahead_items b) ≡ sum_by (λ (x : Sealed). x.ends) (take k more) = ap (λ (xs : List Sealed). sum_by (λ (x : Sealed). x.ends) xs) ahead in
          let before = taken_count a s more k g.takes in
          omega (arith, e, g.here, before);
      told = λ told rows t.
          let bytes : shown_bytes b.shown ≡ s.block.bytes = ap shown_bytes g.shown ∙ g.told told in
          let cur : current b ≡ piece_of s =
          ap (λ (n : ℕ). record { bytes = drop n (shown_bytes b.shown); ends = b.here }) g.at
          ∙ ap (λ (xs : List ℕ). record { bytes = xs; ends = b.here }) bytes
          ∙ ap (λ (n : ℕ). record { bytes = s.block.bytes; ends = n }) g.here in
          let begun : begun_at a ≡ begun_at b =
          ap (λ (n : ℕ). take n a.buffer.items) (sym g.kept) ∙ ap (λ (v : _). take b.kept v) (ap (λ v. v.items) (sym g.buffer)) in
          let P : List Sealed → Type 0 = λ xs. AreIn kinds (begun_at b) (current b ∷ pieces xs) rows [] in
          let Q : Piece → Type 0 = λ x. AreIn kinds (begun_at b) (x ∷ pieces (take k more)) rows [] in
          let R : List ℕ → Type 0 = λ xs. AreIn kinds xs (piece_of s ∷ pieces (take k more)) rows [] in
          record {
            are = subst P (sym ahead) (subst Q (sym cur) (subst R begun (taken_rows kinds a s more k rows g.takes t)));
            done = λ none. absurd (omega (arith, none, g.here, g.ends));
          };
    }

-- the block that is pinned was left
pub record WasLeft (a b : Place) (h : Held) : Type 0 where
  pub shown : a.shown ≡ Some h
  pub read : a.here ≡ 0
  pub items : b.ring.items ≡ a.ring.items ++ left_of a.after (sealed_in h)
  pub len : (deque_len b.ring ≤ deque_len a.ring + 1) × (deque_len a.ring ≤ deque_len b.ring)
  pub capacity : deque_capacity b.ring ≡ deque_capacity a.ring
  pub ahead : b.ahead ≡ a.ahead
  pub after : b.after ≡ a.after
  pub hidden : IsHidden b
  pub at : b.at ≡ 0
  pub buffer : b.buffer ≡ a.buffer
  pub kept : b.kept ≡ a.kept

ahead_fits : (pool : PoolName) (a : Place) → IsPlaced pool a → a.ahead ≤ length a.ring.items
ahead_fits pool a p = let ok = a.ring.ok.0 in omega (arith, p.ahead, ok)

left_ahead : (pool : PoolName) (a b : Place) (h : Held) → IsPlaced pool a → WasLeft a b h → ahead_items b ≡ ahead_items a
left_ahead pool a b h p w =
    ap (λ (n : ℕ). take n b.ring.items) w.ahead ∙ ap (λ (xs : List Sealed). take a.ahead xs) w.items
    ∙ take-append-le a.ahead a.ring.items (left_of a.after (sealed_in h)) (ahead_fits pool a p)

left_behind : (pool : PoolName) (a b : Place) (h : Held) → IsPlaced pool a → WasLeft a b h → drop b.ahead b.ring.items ≡ drop a.ahead a.ring.items ++ left_of a.after (sealed_in h)
left_behind pool a b h p w =
    ap (λ (n : ℕ). drop n b.ring.items) w.ahead ∙ ap (λ (xs : List Sealed). drop a.ahead xs) w.items
    ∙ drop-append-le a.ahead a.ring.items (left_of a.after (sealed_in h)) (ahead_fits pool a p)

held_is : (pool : PoolName) (a : Place) (h : Held) → IsPlaced pool a → a.shown ≡ Some h → IsHeldIn pool h
held_is pool a h p e = let P : Option Held → Type 0 = λ o. IsHeld pool o in subst P e p.held

pub left_placed : (pool : PoolName) (a b : Place) (h : Held) → IsPlaced pool a → WasLeft a b h → IsPlaced pool b
left_placed pool a b h p w =
    let P : List Sealed → Type 0 = λ xs. AllSealedIn pool xs in
    let Q : Option Held → Type 0 = λ o. IsHeld pool o in
    let none : pins b.shown ≡ 0 = ap pins w.hidden.shown in
    let one : pins a.shown ≡ 1 = ap pins w.shown in
    let held = held_is pool a h p w.shown in
    record {
      ahead = omega (arith, w.ahead, w.len.1, p.ahead);
      room = omega (arith, none, one, w.len.0, w.capacity, p.room);
      sealed = subst P (sym (left_ahead pool a b h p w)) p.sealed;
      behind = subst P (sym (left_behind pool a b h p w)) (sealed-append pool (drop a.ahead a.ring.items) (left_of a.after (sealed_in h)) p.behind (left_sealed pool a.after (sealed_in h) held.is_sealed));
      held = subst Q (sym w.hidden.shown) tt;
      at = omega (arith, w.at);
      some = λ some. absurd (omega (arith, some, w.hidden.here));
      kept = rw (w.buffer, w.kept) p.kept;
      short = omega (arith, w.kept, p.short);
      space = λ some. rw w.buffer (p.space (omega (arith, some, w.kept)));
      freed = λ frees. left_behind pool a b h p w ∙ left_none a.after (drop a.ahead a.ring.items) (sealed_in h) p.freed (sym w.after ∙ frees);
    }

pub left_moved : (kinds : List Kind) (pool : PoolName) (a b : Place) (h : Held) → IsPlaced pool a → WasLeft a b h → Moved kinds pool a b
left_moved kinds pool a b h p w =
    let ahead = left_ahead pool a b h p w in
    let behind : List Sealed = drop a.ahead a.ring.items in
    let before : file_items a ≡ behind ++ (sealed_in h ∷ ahead_items a) = ap (λ (o : Option Held). behind ++ (held_list o ++ ahead_items a)) w.shown in
    let now : file_items b ≡ (behind ++ left_of a.after (sealed_in h)) ++ ahead_items a =
    ap (λ (xs : List Sealed). xs ++ (held_list b.shown ++ ahead_items b)) (left_behind pool a b h p w)
    ∙ ap (λ (o : Option Held). (behind ++ left_of a.after (sealed_in h)) ++ (held_list o ++ ahead_items b)) w.hidden.shown
    ∙ ap (λ (xs : List Sealed). (behind ++ left_of a.after (sealed_in h)) ++ xs) ahead in
    let begun : begun_at a ≡ begun_at b =
    ap (λ (n : ℕ). take n a.buffer.items) (sym w.kept) ∙ ap (λ (v : _). take b.kept v) (ap (λ v. v.items) (sym w.buffer)) in
    record {
      file = leaves_between a.after _ _ _ _ before now (leaves_one a.after behind (ahead_items a) (sealed_in h) p.freed);
      after = w.after;
      count =
          let e : sum_by (λ (x : Sealed). x.ends) (ahead_items b) ≡ sum_by (λ (x : Sealed). x.ends) (ahead_items a) = ap (λ (xs : List Sealed). sum_by (λ (x : Sealed). x.ends) xs) ahead in
          omega (arith, e, w.read, w.hidden.here);
      told = λ told rows t.
          let bytes : drop a.at (shown_bytes a.shown) ≡ [] = t.done w.read in
          let cur : current a ≡ record { bytes = []; ends = 0 } = ap (λ (xs : List ℕ). record { bytes = xs; ends = a.here }) bytes ∙ ap (λ (n : ℕ). record { bytes = []; ends = n }) w.read in
          let P : Piece → Type 0 = λ x. AreIn kinds (begun_at a) (x ∷ pieces (ahead_items a)) rows [] in
          let rest = rest_of kinds (begun_at a) (pieces (ahead_items a)) rows (subst P cur t.are) in
          let Q : List ℕ → Type 0 = λ xs. AreIn kinds xs (pieces (ahead_items a)) rows [] in
          let R : List Sealed → Type 0 = λ xs. AreIn kinds (begun_at b) (pieces xs) rows [] in
          rest_telling kinds b rows w.hidden (subst R (sym ahead) (subst Q begun rest));
    }

pub moved_refl : (kinds : List Kind) (pool : PoolName) (a : Place) → Moved kinds pool a a
moved_refl kinds pool a = record { file = leaves_same a.after _ _ refl; after = refl; count = refl; told = λ told rows h. h }

pub moved_trans : (kinds : List Kind) (pool : PoolName) (a b c : Place) → Moved kinds pool a b → Moved kinds pool b c → Moved kinds pool a c
moved_trans kinds pool a b c p q = record {
  file = leaves_trans a.after _ _ _ p.file (subst (λ (k : After). Leaves k (file_items b) (file_items c)) p.after q.file);
  after = q.after ∙ p.after;
  count = q.count ∙ p.count;
  told = λ told rows h. q.told told rows (p.told told rows h);
}

pub tells_moved : (kinds : List Kind) (pool : PoolName) (a b : Place) → Moved kinds pool a b → Tells kinds pool a → Tells kinds pool b
tells_moved kinds pool a b m t = λ told. let rows = t told in (rows.0, m.told told rows.0 rows.1)

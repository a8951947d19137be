-- Blocks copied so far.
use Rattle.std.proofs.Common.{◌≡◌, zero, suc, slice_index_or, None, List, ℕ, sym, ap, subst, ◌∙◌, ◌≤◌, true, arith}
use Rattle.row_defs.specs.declared.kind.Kind.{Kind}
use Rattle.block_pool.specs.Handles.{HandValue, PoolName, Follows, IsShown, RefusesPin}
use Rattle.block_pool.specs.Follows.{follows_trans}
use Rattle.dia_item.specs.Sizes.{longest_row}
use Rattle.dia_file.specs.Refusals.{RefusesRead, RefusesRoom}
use Rattle.pool_core.specs.declared.refusals.PinErr.{PinErr}
use Rattle.pool_core.specs.declared.refusals.PinErr.TheVariants as pin
use Rattle.dia_file.specs.declared.place.Place.{Place}
use Rattle.std.proofs.Common.{◌+◌, ◌-◌, ◌<◌, Global, refl, vec_len, vec_capacity, [], ◌∷◌, ◌++◌, length, take, drop, Option}
use Rattle.std.proofs.lemmas.List.{take_at, length-take-le}
use Rattle.std.specs.List.{sum_by}
use Rattle.std.specs.VecDeque.{deque_len, deque_capacity}
use Rattle.std.specs.declared.collections.VecDeque.{VecDeque}
use Rattle.dia_file.specs.declared.sealed.Sealed.{Sealed}
use Rattle.dia_file.specs.declared.place.Held.{Held}
use Rattle.dia_file.specs.Pieces.{Piece, AreIn}
use Rattle.dia_file.specs.Frames.{pieces}
use Rattle.dia_file.specs.Places.{block_count, sealed_in, left_of, file_items, IsPlaced, Moved, Tells, held_list, shown_bytes, ahead_items, begun_at, current}
use Rattle.dia_file.proofs.PlaceLemmas.{IsHidden, Takes, Gathered, taken_sealed, long_fits, moved_trans, tells_moved}
use Rattle.dia_file.specs.Tallies.{Frees}
use Rattle.dia_file.proofs.Tallying.{frees_trans}
use Rattle.dia_file.proofs.BehindLemmas.{leaves_same, leaves_trans}

pub record GatheredSoFar (kinds : List Kind) (first : HandValue) (from : Place) (hand : HandValue) (place : Place) : Type 0 where
  pub placed : IsPlaced first.pool place
  pub moved : Moved kinds first.pool from place
  pub read : place.here ≡ 0
  pub hidden : place.shown ≡ None
  pub told : Tells kinds first.pool place
  pub permits : hand.permits ≡ first.permits
  pub gone : Frees (block_count from) (block_count place) first.notes hand.notes
  pub follows : Follows first hand

pub pin_fault_from : (e : PinErr) (a b c : HandValue) → Follows a b → RefusesRead b c e → RefusesRead a c e
pin_fault_from (pin.Disk count) a b c p q = record { hits = omega (arith, p.grown.hits, q.hits); rose = q.rose; count_is = q.count_is }
pin_fault_from pin.Damaged a b c p q = λ told. q (ap (λ (x : PoolName). x.opening.tells) p.pool ∙ told)
pin_fault_from pin.NoMemory a b c p q = tt

-- what the pool refuses, a reader refuses too
pub pin_read : (e : PinErr) (a b : HandValue) → RefusesPin a.notes b.notes e → RefusesRead a b e
pin_read (pin.Disk count) a b h = h
pin_read pin.Damaged a b h = absurd h
pin_read pin.NoMemory a b h = tt

first_is : (x s : Sealed) (xs rest : List Sealed) → x ∷ xs ≡ s ∷ rest → x ≡ s
first_is x s xs rest e = ap (λ (items : List Sealed). slice_index_or items 0 x) e

-- the first block ahead is the ring's first one
pub first_ahead : (n : ℕ) (items : List Sealed) (s : Sealed) (rest : List Sealed) → take n items ≡ s ∷ rest → (more : List Sealed) × (items ≡ s ∷ more)
first_ahead zero items s rest e = absurd (cc)
first_ahead (suc n) [] s rest e = absurd (cc)
first_ahead (suc n) (x ∷ xs) s rest e = (xs, ap (λ (y : Sealed). y ∷ xs) (first_is x s (take n xs) rest e))

first_there : (items : List Sealed) → 0 < length items → (s : Sealed) × (more : List Sealed) × (items ≡ s ∷ more)
first_there [] some = absurd (omega (arith, some))
first_there (x ∷ xs) some = (x, xs, refl)

-- a long block that the disk tells fits behind the bytes that were kept
pub room_fits :
    (kinds : List Kind) (pool : PoolName) (a : Place) (len : ℕ) → length kinds ≤ 6 → IsPlaced pool a → IsHidden a → 0 < a.ahead
    → ((s : Sealed) (rest : List Sealed) → a.ring.items ≡ s ∷ rest → (s.ends ≡ 0) × (s.len ≡ len))
    → Tells kinds pool a → pool.opening.tells ≡ true → a.kept + len ≤ longest_row
room_fits kinds pool a len most placed hidden some long tells told =
    let ok = a.ring.ok.0 in
    let ahead = placed.ahead in
    let first = first_there a.ring.items (omega (arith, ahead, some, ok)) in
    let is = long first.0 first.1 first.2 in
    let takes : Takes a first.0 first.1 (a.ahead - 1) = record { hidden = hidden; items = first.2; ahead = omega (arith, some) } in
    let fits = long_fits kinds pool a first.0 first.1 (a.ahead - 1) most placed takes is.0 tells told in
    let same = is.1 in
    omega (arith, fits, same)

-- what is refused for want of room behind what is kept is refused a reader
pub room_read : (e : PinErr) (a b : HandValue) (kept more : ℕ) → RefusesRoom kept more e → (a.pool.opening.tells ≡ true → kept + more ≤ longest_row) → RefusesRead a b e
room_read (pin.Disk count) a b kept more h fits = absurd h
room_read pin.Damaged a b kept more h fits = λ told. let within = fits told in omega (arith, h, within)
room_read pin.NoMemory a b kept more h fits = tt

-- moves of one hand, one after the other
pub moved_then : (kinds : List Kind) (a h : HandValue) (x y z : Place) → Follows a h → Moved kinds a.pool x y → Moved kinds h.pool y z → Moved kinds a.pool x z
moved_then kinds a h x y z f p q = let P : PoolName → Type 0 = λ pool. Moved kinds pool y z in moved_trans kinds a.pool x y z p (subst P f.pool q)

pub tells_then : (kinds : List Kind) (a h : HandValue) (x y : Place) → Follows a h → Moved kinds a.pool x y → Tells kinds a.pool x → Tells kinds h.pool y
tells_then kinds a h x y f p t = let P : PoolName → Type 0 = λ pool. Tells kinds pool y in subst P (sym f.pool) (tells_moved kinds a.pool x y p t)

pub gathered_more :
    (kinds : List Kind) (first h k : HandValue) (from p q : Place) → GatheredSoFar kinds first from h p
    → IsPlaced h.pool q → Moved kinds h.pool p q → q.here ≡ 0 → q.shown ≡ None → k.permits ≡ h.permits → Frees (block_count p) (block_count q) h.notes k.notes → Follows h k → GatheredSoFar kinds first from k q
gathered_more kinds first h k from p q i placed moved read hidden permits gone follows =
    let P : PoolName → Type 0 = λ pool. IsPlaced pool q in
    let all = moved_then kinds first h from p q i.follows i.moved moved in
    let Q : PoolName → Type 0 = λ pool. Moved kinds pool p q in
    record {
      placed = subst P i.follows.pool placed;
      moved = all;
      read = read;
      hidden = hidden;
      told = tells_moved kinds first.pool p q (subst Q i.follows.pool moved) i.told;
      permits = permits ∙ i.permits;
      gone = frees_trans (block_count from) (block_count p) (block_count q) first.notes h.notes k.notes i.gone gone;
      follows = follows_trans first h k i.follows follows;
    }

-- the buffer changed behind what is kept
pub refilled :
    (kinds : List Kind) (pool : PoolName) (x y z : Place) → Moved kinds pool x y
    → z.ring ≡ y.ring → z.ahead ≡ y.ahead → z.shown ≡ y.shown → z.at ≡ y.at → z.here ≡ y.here → z.after ≡ y.after → begun_at z ≡ begun_at y → Moved kinds pool x z
refilled kinds pool x y z m ring ahead shown at here kind begun =
    let items : ahead_items z ≡ ahead_items y = ap (λ r. take z.ahead r.items) ring ∙ ap (λ (n : ℕ). take n y.ring.items) ahead in
    let behind : drop z.ahead z.ring.items ≡ drop y.ahead y.ring.items = ap (λ r. drop z.ahead r.items) ring ∙ ap (λ (n : ℕ). drop n y.ring.items) ahead in
    let bytes : drop z.at (shown_bytes z.shown) ≡ drop y.at (shown_bytes y.shown) = ap (λ (n : ℕ). drop n (shown_bytes z.shown)) at ∙ ap (λ (o : Option Held). drop y.at (shown_bytes o)) shown in
    record {
      file =
          let same : file_items z ≡ file_items y =
          ap (λ (xs : List Sealed). xs ++ (held_list z.shown ++ ahead_items z)) behind
          ∙ ap (λ (o : Option Held). drop y.ahead y.ring.items ++ (held_list o ++ ahead_items z)) shown
          ∙ ap (λ (xs : List Sealed). drop y.ahead y.ring.items ++ (held_list y.shown ++ xs)) items in
          leaves_trans x.after _ _ _ m.file (leaves_same x.after _ _ same);
      after = kind ∙ m.after;
      count = ap (λ (n : ℕ). n + sum_by (λ (s : Sealed). s.ends) (ahead_items z)) here
          ∙ ap (λ (xs : List Sealed). y.here + sum_by (λ (s : Sealed). s.ends) xs) items ∙ m.count;
      told = λ told rows t.
          let u = m.told told rows t in
          let P : List ℕ → Type 0 = λ b. AreIn kinds b (current z ∷ pieces (ahead_items z)) rows [] in
          let Q : Piece → Type 0 = λ c. AreIn kinds (begun_at y) (c ∷ pieces (ahead_items z)) rows [] in
          let R : List Sealed → Type 0 = λ xs. AreIn kinds (begun_at y) (current y ∷ pieces xs) rows [] in
          let cur : current z ≡ current y = ap (λ (b : List ℕ). record { bytes = b; ends = z.here }) bytes ∙ ap (λ (n : ℕ). record { bytes = drop y.at (shown_bytes y.shown); ends = n }) here in
          record {
            are = subst P (sym begun) (subst Q (sym cur) (subst R (sym items) u.are));
            done = λ none. bytes ∙ u.done (sym here ∙ none);
          };
    }

pub kept_again : (n : ℕ) (old new more : List ℕ) → n ≤ length old → new ≡ take n old ++ more → take n new ≡ take n old
kept_again n old new more within e = ap (λ (xs : List ℕ). take n xs) e ∙ take_at (take n old) more n (length-take-le n old within)

-- the first block was copied and left
pub was_gathered :
    (pool : PoolName) (a b : Place) (h : Held) (more : VecDeque Sealed Global) (len : ℕ) (bytes : List ℕ) → IsPlaced pool a → IsHidden a → 0 < a.ahead
    → a.ring.items ≡ sealed_in h ∷ more.items → deque_len more + 1 ≡ deque_len a.ring → deque_capacity more ≡ deque_capacity a.ring → IsShown h.pinned
    → ((s : Sealed) (rest : List Sealed) → a.ring.items ≡ s ∷ rest → (s.ends ≡ 0) × (s.len ≡ len)) → a.kept + len ≤ longest_row
    → b.ring.items ≡ more.items ++ left_of a.after (sealed_in h) → (deque_len b.ring ≤ deque_len more + 1) × (deque_len more ≤ deque_len b.ring) → deque_capacity b.ring ≡ deque_capacity more
    → b.ahead ≡ a.ahead - 1 → b.after ≡ a.after → IsHidden b → b.at ≡ a.at → b.kept ≡ a.kept + len
    → b.buffer.items ≡ begun_at a ++ bytes → vec_len b.buffer ≡ a.kept + length bytes → longest_row ≤ vec_capacity b.buffer → bytes ≡ h.pinned.shown
    → Gathered pool a b (sealed_in h) more.items (a.ahead - 1) bytes
was_gathered pool a b h more len bytes placed hidden some taken less capacity shown long fits items size capacity_again ahead after hidden_again at kept buffer buffer_len buffer_room are =
    let is = long (sealed_in h) more.items taken in
    let takes : Takes a (sealed_in h) more.items (a.ahead - 1) = record { hidden = hidden; items = taken; ahead = omega (arith, some) } in
    let all = taken_sealed pool a (sealed_in h) more.items (a.ahead - 1) placed takes in
    let same = is.1 in
    record {
      takes = takes;
      long = is.0;
      items = items;
      len = (omega (arith, size.0, less), omega (arith, size.1, less));
      after = after;
      capacity = capacity_again ∙ capacity;
      ahead = ahead;
      hidden = hidden_again;
      at = at;
      kept = omega (arith, kept, same);
      fits = omega (arith, fits, same);
      buffer = buffer;
      buffer_len = buffer_len;
      buffer_room = buffer_room;
      shown_len = ap (λ (xs : List ℕ). length xs) are ∙ shown.long;
      told = λ told. are ∙ shown.told (ap (λ (p : PoolName). p.opening.tells) all.0.of_pool ∙ told);
    }

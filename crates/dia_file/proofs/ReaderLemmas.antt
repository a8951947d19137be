-- A place among the rows of a file, from row to row.
use Rattle.std.proofs.Common.{◌≡◌, ℕ, zero, suc, ◌+◌, ◌≤◌, ◌<◌, ◌⊎◌, ⊎_elim, inl, inr, Bool, true, false, IfSome, IfNone, OnSome, List, [], ◌∷◌, ◌++◌, length, take, drop, Option, None, Some, refl, sym, ap, subst, ◌∙◌, length-append, arith}
use Rattle.std.proofs.lemmas.List.{length-take-le}
use Rattle.std.specs.List.{sum_by}
use Rattle.std.specs.Bool.{OnTrue, OnFalse}
use Rattle.row_defs.specs.declared.kind.Kind.{Kind}
use Rattle.row_defs.specs.Rows.{Row, kinds_of}
use Rattle.dia_item.specs.Lent.{row_in_ref}
use Rattle.dia_item.specs.declared.row_ref.RowRef.{RowRef}
use Rattle.block_pool.specs.Handles.{PoolName}
use Rattle.dia_file.specs.declared.sealed.Sealed.{Sealed}
use Rattle.dia_file.specs.declared.place.Held.{Held}
use Rattle.dia_file.specs.declared.place.Place.{Place}
use Rattle.dia_file.specs.Frames.{AllSealedIn, AreBlocksOf}
use Rattle.dia_file.specs.Places.{at_spot, held_list, shown_bytes, pins, ahead_items, file_items, rows_left, IsHeld, IsPlaced, Tells, Moved, GaveRow, GivesNone}
use Rattle.dia_file.specs.Readers.{IsReading, Gives, StaysAt}
use Rattle.dia_file.proofs.PlaceLemmas.{kept_len, moved_refl, tells_moved}
use Rattle.dia_file.proofs.Tallying.{length_held}
use Rattle.dia_file.proofs.Steps.{Given, given_told, none_told, left_told, length_left}

sealed-append : (pool : PoolName) (xs ys : List Sealed) → AllSealedIn pool xs → AllSealedIn pool ys → AllSealedIn pool (xs ++ ys)
sealed-append pool [] ys p q = q
sealed-append pool (x ∷ xs) ys p q = (p.0, sealed-append pool xs ys p.1 q)

sealed_front : (pool : PoolName) (xs ys : List Sealed) → AllSealedIn pool (xs ++ ys) → AllSealedIn pool xs
sealed_front pool [] ys p = tt
sealed_front pool (x ∷ xs) ys p = (p.0, sealed_front pool xs ys p.1)

sealed_back : (pool : PoolName) (xs ys : List Sealed) → AllSealedIn pool (xs ++ ys) → AllSealedIn pool ys
sealed_back pool [] ys p = p
sealed_back pool (x ∷ xs) ys p = sealed_back pool xs ys p.1

move_pool : (old pool : PoolName) (items : List Sealed) → AllSealedIn old items → AreBlocksOf pool items → AllSealedIn pool items
move_pool old pool [] h own = tt
move_pool old pool (x ∷ xs) h own = (record { of_pool = own.0; len = h.0.len; some = h.0.some }, move_pool old pool xs h.1 own.1)

held_sealed : (pool : PoolName) (o : Option Held) → IsHeld pool o → AllSealedIn pool (held_list o)
held_sealed pool None h = tt
held_sealed pool (Some x) h = (h.is_sealed, tt)

held_again : (old pool : PoolName) (o : Option Held) → IsHeld old o → AllSealedIn pool (held_list o) → IsHeld pool o
held_again old pool None h s = tt
held_again old pool (Some x) h s = record { is_sealed = s.0; len = h.len }

file_sealed : (pool : PoolName) (p : Place) → IsPlaced pool p → AllSealedIn pool (file_items p)
file_sealed pool p h = sealed-append pool (drop p.ahead p.ring.items) _ h.behind (sealed-append pool (held_list p.shown) (ahead_items p) (held_sealed pool p.shown h.held) h.sealed)

-- the blocks of the file say which pool it is
pub placed_at : (old pool : PoolName) (p : Place) → IsPlaced old p → AreBlocksOf pool (file_items p) → IsPlaced pool p
placed_at old pool p h own =
    let all = move_pool old pool (file_items p) (file_sealed old p h) own in
    let rest = sealed_back pool (drop p.ahead p.ring.items) (held_list p.shown ++ ahead_items p) all in
    record {
      ahead = h.ahead;
      room = h.room;
      sealed = sealed_back pool (held_list p.shown) (ahead_items p) rest;
      behind = sealed_front pool (drop p.ahead p.ring.items) (held_list p.shown ++ ahead_items p) all;
      held = held_again old pool p.shown h.held (sealed_front pool (held_list p.shown) (ahead_items p) rest);
      at = h.at;
      some = h.some;
      kept = h.kept;
      short = h.short;
      space = h.space;
      freed = h.freed;
    }

first_pool : (old pool : PoolName) (items : List Sealed) → AllSealedIn old items → AreBlocksOf pool items → 0 < length items → old ≡ pool
first_pool old pool [] h own some = absurd (omega (arith, some))
first_pool old pool (x ∷ xs) h own some = sym h.0.of_pool ∙ own.0

pub none_or_some : (n : ℕ) → (n ≡ 0) ⊎ (0 < n)
none_or_some zero = inl refl
none_or_some (suc n) = inr (omega arith)

some_items : (pool : PoolName) (p : Place) → IsPlaced pool p → 0 < p.here + p.ahead + pins p.shown → 0 < length (file_items p)
some_items pool p h some =
    let ok = p.ring.ok.0 in
    let a : length (ahead_items p) ≡ p.ahead = length-take-le p.ahead p.ring.items (omega (arith, h.ahead, ok)) in
    let b = length-append (drop p.ahead p.ring.items) (held_list p.shown ++ ahead_items p) in
    let c = length-append (held_list p.shown) (ahead_items p) in
    let d = length_held p.shown in
    ⊎_elim (λ (none : p.here ≡ 0). omega (arith, a, b, c, d, none, some)) (λ (more : 0 < p.here). let one : pins p.shown ≡ 1 = h.some more in omega (arith, b, c, d, one)) (none_or_some p.here)

pub on_false : (P : Type 0) (b : Bool) → b ≡ false → OnFalse b P → P
on_false P b e h = let Q : Bool → Type 0 = λ x. OnFalse x P in subst Q e h

pub on_true : (P : Type 0) (b : Bool) → b ≡ true → OnTrue b P → P
on_true P b e h = let Q : Bool → Type 0 = λ x. OnTrue x P in subst Q e h

pub same_pool : (old pool : PoolName) (p : Place) → IsPlaced old p → AreBlocksOf pool (file_items p) → 0 < p.here + p.ahead + pins p.shown → old ≡ pool
same_pool old pool p h own some = first_pool old pool (file_items p) (file_sealed old p h) own (some_items old p h some)

moved_by :
    (kinds : List Kind) (x : Place) (pool : PoolName) (p : Place) (a h k n : ℕ) → IsReading kinds x → AreBlocksOf pool (file_items x) → IsPlaced pool (at_spot p a h k)
    → Moved kinds pool x (at_spot p a h k) → (0 ≡ x.here + x.ahead + pins x.shown → at_spot p a h k ≡ x) → h ≡ 0 → x.here + x.ahead + pins x.shown ≡ n
    → (q : PoolName) × IsPlaced q (at_spot p a h k) × Tells kinds q (at_spot p a h k)
moved_by kinds x pool p a h k zero i own placed moved still none e =
    let same : x ≡ at_spot p a h k = sym (still (sym e)) in
    let P : Place → Type 0 = λ x. IsPlaced i.pool x in
    let Q : Place → Type 0 = λ x. Tells kinds i.pool x in
    (i.pool, subst P same i.placed, subst Q same i.told)
moved_by kinds x pool p a h k (suc n) i own placed moved still none e =
    let same : i.pool ≡ pool = same_pool i.pool pool x i.placed own (omega (arith, e)) in
    let P : PoolName → Type 0 = λ q. Tells kinds q x in
    (pool, placed, tells_moved kinds pool x (at_spot p a h k) moved (subst P same i.told))

-- the same rows are left
pub moved_keeps :
    (kinds : List Kind) (x : Place) (pool : PoolName) (p : Place) (a h k : ℕ) → IsReading kinds x → AreBlocksOf pool (file_items x) → IsPlaced pool (at_spot p a h k)
    → Moved kinds pool x (at_spot p a h k) → (0 ≡ x.here + x.ahead + pins x.shown → at_spot p a h k ≡ x) → h ≡ 0
    → IsReading kinds (at_spot p a h k)
moved_keeps kinds x pool p a h k i own placed moved still none =
    let m = moved_by kinds x pool p a h k (x.here + x.ahead + pins x.shown) i own placed moved still none refl in
    record {
      pool = m.0;
      placed = m.1;
      most = i.most;
      told = m.2;
      alone = λ some. absurd (omega (arith, none, some));
    }

stays_by :
    (kinds : List Kind) (x : Place) (pool : PoolName) (p : Place) (a h k n : ℕ) → IsReading kinds x → AreBlocksOf pool (file_items x)
    → Moved kinds pool x (at_spot p a h k) → (0 ≡ x.here + x.ahead + pins x.shown → at_spot p a h k ≡ x) → x.here + x.ahead + pins x.shown ≡ n
    → pool.opening.tells ≡ true → rows_left kinds (at_spot p a h k) ≡ rows_left kinds x
stays_by kinds x pool p a h k zero i own moved still e told = ap (λ (x : Place). rows_left kinds x) (still (sym e))
stays_by kinds x pool p a h k (suc n) i own moved still e told =
    let same : i.pool ≡ pool = same_pool i.pool pool x i.placed own (omega (arith, e)) in
    let P : PoolName → Type 0 = λ q. Tells kinds q x in
    let t = subst P same i.told told in
    left_told kinds (at_spot p a h k) t.0 (moved.told told t.0 t.1) ∙ sym (left_told kinds x t.0 t.1)

pub moved_stays :
    (kinds : List Kind) (x : Place) (pool : PoolName) (p : Place) (a h k : ℕ) → IsReading kinds x → AreBlocksOf pool (file_items x)
    → Moved kinds pool x (at_spot p a h k) → (0 ≡ x.here + x.ahead + pins x.shown → at_spot p a h k ≡ x)
    → StaysAt pool (rows_left kinds x) (rows_left kinds (at_spot p a h k))
moved_stays kinds x pool p a h k i own moved still = record {
  count = length_left kinds (at_spot p a h k) ∙ moved.count ∙ sym (length_left kinds x);
  told = stays_by kinds x pool p a h k (x.here + x.ahead + pins x.shown) i own moved still refl;
}

none_of : (rows : List Row) → length rows ≡ 0 → rows ≡ []
none_of [] e = refl
none_of (r ∷ rows) e = absurd (omega arith)

-- the end
pub moved_end :
    (kinds : List Kind) (x : Place) (pool : PoolName) (p : Place) (a h k : ℕ) → Moved kinds pool x (at_spot p a h k) → p.ahead ≡ 0 → h ≡ 0
    → ((rows_left kinds x) ≡ []) × ((rows_left kinds (at_spot p a h k)) ≡ [])
moved_end kinds x pool p a h k moved ahead none =
    let e : sum_by (λ (s : Sealed). s.ends) (take p.ahead p.ring.items) ≡ 0 = ap (λ (n : ℕ). sum_by (λ (s : Sealed). s.ends) (take n p.ring.items)) ahead in
    let after = length_left kinds (at_spot p a h k) in
    let before = length_left kinds x in
    let count = moved.count in
    (none_of _ (omega (arith, before, count, e, none)), none_of _ (omega (arith, after, e, none)))

-- the same blocks, once a row was given or none was
pub placed_spot :
    (pool : PoolName) (p : Place) (a h k b i : ℕ) → IsPlaced pool (at_spot p a h k) → b ≤ length (shown_bytes p.shown) → pins p.shown ≡ 1 → IsPlaced pool (at_spot p b i 0)
placed_spot pool p a h k b i placed at one = record {
  ahead = placed.ahead;
  room = placed.room;
  sealed = placed.sealed;
  behind = placed.behind;
  held = placed.held;
  at = at;
  some = λ _. one;
  kept = omega arith;
  short = omega arith;
  space = λ some. absurd (omega (arith, some));
  freed = placed.freed;
}

-- a row that is given was left before, in one pool
told_before :
    (kinds : List Kind) (x : Place) (pool : PoolName) (p : Place) (a h k n : ℕ) → IsReading kinds x → AreBlocksOf pool (file_items x)
    → (0 ≡ x.here + x.ahead + pins x.shown → at_spot p a h k ≡ x) → 0 < h → x.here + x.ahead + pins x.shown ≡ n → Tells kinds pool x
told_before kinds x pool p a h k zero i own still some e =
    let same : h ≡ x.here = ap (λ (x : Place). x.here) (still (sym e)) in
    absurd (omega (arith, e, same, some))
told_before kinds x pool p a h k (suc n) i own still some e =
    let same : i.pool ≡ pool = same_pool i.pool pool x i.placed own (omega (arith, e)) in
    let P : PoolName → Type 0 = λ q. Tells kinds q x in
    subst P same i.told

-- what is known once the place is ready
pub record Ready (kinds : List Kind) (x : Place) (pool : PoolName) (p : Place) (a h k : ℕ) : Type 0 where
  pub reading : IsReading kinds x
  pub own : AreBlocksOf pool (file_items x)
  pub placed : IsPlaced pool (at_spot p a h k)
  pub moved : Moved kinds pool x (at_spot p a h k)
  pub still : 0 ≡ x.here + x.ahead + pins x.shown → at_spot p a h k ≡ x
  pub some : 0 < h
  pub start : 0 < k → a ≡ 0

ready_told : (kinds : List Kind) (x : Place) (pool : PoolName) (p : Place) (a h k : ℕ) → Ready kinds x pool p a h k → Tells kinds pool x
ready_told kinds x pool p a h k r = told_before kinds x pool p a h k (x.here + x.ahead + pins x.shown) r.reading r.own r.still r.some refl

given_of :
    (kinds : List Kind) (x : Place) (pool : PoolName) (p : Place) (a h k b i : ℕ) (row : Row) → Ready kinds x pool p a h k → i + 1 ≡ h
    → GaveRow kinds (at_spot p a h k) row (at_spot p b i 0) → Given kinds (at_spot p a h k) (at_spot p b i 0) row
given_of kinds x pool p a h k b i row r e gave = record {
  ring = refl;
  ahead = refl;
  shown = refl;
  here = omega (arith, e);
  kept = refl;
  start = r.start;
  begun = kept_len pool (at_spot p a h k) r.placed;
  gave = gave;
}

pub record GivesNext (kinds : List Kind) (x : Place) (pool : PoolName) (p : Place) (b i : ℕ) (row : Row) : Type 0 where
  pub keeping_on : IsReading kinds (at_spot p b i 0)
  pub gives : Gives pool kinds (rows_left kinds x) row (rows_left kinds (at_spot p b i 0))

pub gives_next :
    (kinds : List Kind) (x : Place) (pool : PoolName) (p : Place) (a h k b i : ℕ) (row : Row) → Ready kinds x pool p a h k → b ≤ length (shown_bytes p.shown) → i + 1 ≡ h
    → GaveRow kinds (at_spot p a h k) row (at_spot p b i 0) → kinds_of row ≡ kinds → GivesNext kinds x pool p b i row
gives_next kinds x pool p a h k b i row r at e gave are =
    let kinds : List Kind = kinds in
    let most = r.reading.most in
    let given = given_of kinds x pool p a h k b i row r e gave in
    let told = ready_told kinds x pool p a h k r in
    let one : pins p.shown ≡ 1 = r.placed.some r.some in
    let sum : ℕ = sum_by (λ (s : Sealed). s.ends) (take p.ahead p.ring.items) in
    let before = length_left kinds x in
    let after = length_left kinds (at_spot p b i 0) in
    let count = r.moved.count in
    record {
      keeping_on = record {
        pool = pool;
        placed = placed_spot pool p a h k b i r.placed at one;
        most = r.reading.most;
        told = λ tells. let t = told tells in let g = given_told kinds (at_spot p a h k) (at_spot p b i 0) row t.0 given most (r.moved.told tells t.0 t.1) in (g.0, g.2);
        alone = λ _. refl;
      };
      gives = record {
        count = omega (arith, before, after, count, e);
        are = are;
        told = λ tells.
            let t = told tells in
            let g = given_told kinds (at_spot p a h k) (at_spot p b i 0) row t.0 given most (r.moved.told tells t.0 t.1) in
            left_told kinds x t.0 t.1 ∙ g.1 ∙ ap (λ (rs : List Row). row ∷ rs) (sym (left_told kinds (at_spot p b i 0) g.0 g.2));
      };
    }

pub record MissesNext (kinds : List Kind) (x : Place) (pool : PoolName) (p : Place) (b h : ℕ) : Type 0 where
  pub keeping_on : IsReading kinds (at_spot p b h 0)
  pub stays : StaysAt pool (rows_left kinds x) (rows_left kinds (at_spot p b h 0))
  pub untold : pool.opening.tells ≡ true → ⊥

none_there : (kinds : List Kind) (x : Place) (pool : PoolName) (p : Place) (a h k n : ℕ) → Ready kinds x pool p a h k → GivesNone kinds (at_spot p a h k) → h ≡ n → pool.opening.tells ≡ true → ⊥
none_there kinds x pool p a h k zero r none e tells = let some = r.some in omega (arith, e, some)
none_there kinds x pool p a h k (suc n) r none e tells =
    let t = ready_told kinds x pool p a h k r tells in
    none_told kinds (at_spot p a h k) t.0 n r.reading.most e r.start (kept_len pool (at_spot p a h k) r.placed) (r.moved.told tells t.0 t.1) none

pub misses_next :
    (kinds : List Kind) (x : Place) (pool : PoolName) (p : Place) (a h k b : ℕ) → Ready kinds x pool p a h k → b ≤ length (shown_bytes p.shown)
    → GivesNone kinds (at_spot p a h k) → MissesNext kinds x pool p b h
misses_next kinds x pool p a h k b r at none =
    let kinds : List Kind = kinds in
    let untold = none_there kinds x pool p a h k h r none refl in
    let one : pins p.shown ≡ 1 = r.placed.some r.some in
    let before = length_left kinds x in
    let after = length_left kinds (at_spot p b h 0) in
    let count = r.moved.count in
    record {
      keeping_on = record {
        pool = pool;
        placed = placed_spot pool p a h k b h r.placed at one;
        most = r.reading.most;
        told = λ tells. absurd (untold tells);
        alone = λ _. refl;
      };
      stays = record { count = omega (arith, before, after, count); told = λ tells. absurd (untold tells) };
      untold = untold;
    }

pub readied :
    (kinds : List Kind) (x : Place) (pool : PoolName) (p : Place) (a h k : ℕ) (more : Bool) → IsReading kinds x → AreBlocksOf pool (file_items x) → IsPlaced pool (at_spot p a h k)
    → Moved kinds pool x (at_spot p a h k) → (0 ≡ x.here + x.ahead + pins x.shown → at_spot p a h k ≡ x) → OnTrue more ((0 < h) × (0 < k → a ≡ 0)) → more ≡ true
    → Ready kinds x pool p a h k
readied kinds x pool p a h k more reading own placed moved still some is =
    let m = on_true ((0 < h) × (0 < k → a ≡ 0)) more is some in
    record { reading = reading; own = own; placed = placed; moved = moved; still = still; some = m.0; start = m.1 }

-- the row that `give` answered is the next one
pub gave :
    (kinds : List Kind) (x : Place) (pool : PoolName) (p : Place) (a h k b i j : ℕ) (row : Row) → Ready kinds x pool p a h k → b ≤ length (shown_bytes p.shown) → j ≡ 0
    → GaveRow kinds (at_spot p a h k) row (at_spot p b i j) → kinds_of row ≡ kinds → i + 1 ≡ h → Gives pool kinds (rows_left kinds x) row (rows_left kinds (at_spot p b i j))
gave kinds x pool p a h k b i j row r at none reads are one =
    let P : ℕ → Type 0 = λ n. Gives pool kinds (rows_left kinds x) row (rows_left kinds (at_spot p b i n)) in
    let Q : ℕ → Type 0 = λ n. GaveRow kinds (at_spot p a h k) row (at_spot p b i n) in
    subst P (sym none) (gives_next kinds x pool p a h k b i row r at one (subst Q none reads) are).gives

-- where it answered none, as many are left
pub missed :
    (kinds : List Kind) (x : Place) (pool : PoolName) (p : Place) (a h k b i j : ℕ) → Ready kinds x pool p a h k → b ≤ length (shown_bytes p.shown) → j ≡ 0
    → GivesNone kinds (at_spot p a h k) → i ≡ h → StaysAt pool (rows_left kinds x) (rows_left kinds (at_spot p b i j))
missed kinds x pool p a h k b i j r at none nothing same =
    let P : ℕ → Type 0 = λ n. StaysAt pool (rows_left kinds x) (rows_left kinds (at_spot p b n j)) in
    let Q : ℕ → Type 0 = λ n. StaysAt pool (rows_left kinds x) (rows_left kinds (at_spot p b h n)) in
    subst P (sym same) (subst Q (sym none) (misses_next kinds x pool p a h k b r at nothing).stays)

-- whatever `give` answered
pub after_give :
    {X : Type 0} (row_of : X → Row) (o : Option X) (kinds : List Kind) (x : Place) (pool : PoolName) (p : Place) (a h k b i j : ℕ) → Ready kinds x pool p a h k → b ≤ length (shown_bytes p.shown) → j ≡ 0
    → IfSome o (λ x. GaveRow kinds (at_spot p a h k) (row_of x) (at_spot p b i j)) → IfSome o (λ x. kinds_of (row_of x) ≡ kinds) → OnSome o (i + 1 ≡ h)
    → IfNone o (GivesNone kinds (at_spot p a h k)) → IfNone o (i ≡ h) → IsReading kinds (at_spot p b i j)
after_give row_of None kinds x pool p a h k b i j r at none reads are one nothing same =
    let P : ℕ → Type 0 = λ n. IsReading kinds (at_spot p b n j) in
    let Q : ℕ → Type 0 = λ n. IsReading kinds (at_spot p b h n) in
    let next = misses_next kinds x pool p a h k b r at nothing in
    subst P (sym same) (subst Q (sym none) next.keeping_on)
after_give row_of (Some found) kinds x pool p a h k b i j r at none reads are one nothing same =
    let Q : ℕ → Type 0 = λ n. IsReading kinds (at_spot p b i n) in
    let R : ℕ → Type 0 = λ n. GaveRow kinds (at_spot p a h k) (row_of found) (at_spot p b i n) in
    let next = gives_next kinds x pool p a h k b i (row_of found) r at one (subst R none reads) are in
    subst Q (sym none) next.keeping_on

pub pins_le : (o : Option Held) → pins o ≤ 1
pins_le None = omega arith
pins_le (Some h) = omega arith

-- where a row that wasn't read yet ends in the block that is pinned, the place is ready as it stands
pub here_ready :
    (kinds : List Kind) (pool : PoolName) (p : Place) (a h k : ℕ) → IsReading kinds (at_spot p a h k) → AreBlocksOf pool (file_items (at_spot p a h k)) → 0 < h
    → Ready kinds (at_spot p a h k) pool p a h k
here_ready kinds pool p a h k i own some = record {
  reading = i;
  own = own;
  placed = placed_at i.pool pool (at_spot p a h k) i.placed own;
  moved = moved_refl kinds pool (at_spot p a h k);
  still = λ _. refl;
  some = some;
  start = λ kept. let none = i.alone some in absurd (omega (arith, none, kept));
}

-- what `give` answered at a place
pub record GivenAt (kinds : List Kind) (x : Place) (o : Option RowRef) (b i j : ℕ) : Type 0 where
  pub within : b ≤ length (shown_bytes x.shown)
  pub kept : j ≡ 0
  pub reads : IfSome o (λ row. GaveRow kinds x (row_in_ref row) (at_spot x b i j))
  pub are : IfSome o (λ row. kinds_of (row_in_ref row) ≡ kinds)
  pub some : OnSome o (i + 1 ≡ x.here)
  pub none : IfNone o (GivesNone kinds x)
  pub stays : IfNone o (i ≡ x.here)

-- A reader that frees its blocks, from row to row.
use Rattle.std.proofs.Common.{◌≡◌, ℕ, ◌+◌, ◌≤◌, ◌<◌, ⊎_elim, true, List, [], ◌∷◌, ◌++◌, length, take, drop, Option, None, Some, refl, sym, ap, subst, ◌∙◌, length-append, arith}
use Rattle.std.proofs.lemmas.List.{map-append, take-append-drop}
use Rattle.std.proofs.lemmas.List.Elements.{recursion_from_All, All-from_recursion}
use Rattle.row_defs.specs.declared.kind.Kind.{Kind}
use Rattle.row_defs.specs.Rows.{Row}
use Rattle.dia_item.specs.KindList.{kind_list}
use Rattle.dia_item.specs.Lent.{row_in_ref}
use Rattle.dia_item.specs.declared.row_ref.RowRef.{RowRef}
use Rattle.block_pool.specs.Follows.{follows_refl}
use Rattle.block_pool.specs.Handles.{PoolName, BlockValue, HandValue, AreOfPool, Follows}
use Rattle.dia_file.specs.declared.sealed.Sealed.{Sealed}
use Rattle.dia_file.specs.declared.place.After.{After}
use Rattle.dia_file.specs.declared.place.After.TheVariants.{Free}
use Rattle.dia_file.specs.declared.place.Held.{Held}
use Rattle.dia_file.specs.declared.place.Place.{Place}
use Rattle.dia_file.specs.declared.consume.ConsumeReader.TheInside.{Inside}
use Rattle.dia_file.specs.Encoding.{encoded}
use Rattle.dia_file.specs.Pieces.{over}
use Rattle.dia_file.specs.Frames.{blocks_of, AllSealedIn, AreBlocksOf}
use Rattle.dia_file.specs.Files.{joined_blocks}
use Rattle.dia_file.specs.Places.{at_spot, held_list, pins, block_count, ahead_items, file_items, begun_at, current, rows_left, Leaves, IsPlaced, Telling, Tells, Moved}
use Rattle.dia_file.specs.Tallies.{Frees}
use Rattle.dia_file.specs.Readers.{IsReading, Gives, StaysAt}
use Rattle.dia_file.specs.Consumers.{ConsumerValue, consumer_value, spot, IsConsumer, Drains}
use Rattle.dia_file.proofs.Tallying.{count_blocks}
use Rattle.dia_file.proofs.RowBytes.{encoded-append}
use Rattle.dia_file.proofs.FileLemmas.{in_bytes}
use Rattle.dia_file.proofs.Steps.{left_told}
use Rattle.dia_file.proofs.ReaderLemmas.{same_pool, none_or_some, pins_le, GivenAt, Ready, here_ready, gave, missed, misses_next, after_give}

abbrev pub moved_to : Inside → Place → ℕ → ℕ → ℕ → Inside
moved_to w p a h k = record w { place = p; at = a; here = h; kept = k }

pub own_items : (w : Inside) (v : ConsumerValue) (pool : PoolName) → consumer_value w ≡ v → AreOfPool pool v.blocks → AreBlocksOf pool (file_items (spot w))
own_items w v pool is own =
    let P : ConsumerValue → Type 0 = λ x. AreOfPool pool x.blocks in
    recursion_from_All (λ (b : BlockValue). b.pool ≡ pool) (blocks_of (file_items (spot w))) (subst P (sym is) own)

items_left :
    (w : Inside) (pool : PoolName) (p : Place) (a h k : ℕ) → IsConsumer w → Moved (kind_list w.kinds) pool (spot w) (at_spot p a h k)
    → (gone : List Sealed) × (file_items (spot w) ≡ gone ++ file_items (at_spot p a h k))
items_left w pool p a h k i moved =
    let P : After → Type 0 = λ x. Leaves x (file_items (spot w)) (file_items (at_spot p a h k)) in subst P i.frees moved.file

-- the reader at another place
pub consumer_moved :
    (w : Inside) (pool : PoolName) (p : Place) (a h k b i j : ℕ) → IsConsumer w → Moved (kind_list w.kinds) pool (spot w) (at_spot p a h k)
    → IsReading (kind_list w.kinds) (at_spot p b i j) → IsConsumer (moved_to w p b i j)
consumer_moved w pool p a h k b i j consumer moved reading = record { reading = reading; frees = moved.after ∙ consumer.frees }

own_rest : (pool : PoolName) (gone items : List Sealed) → AreBlocksOf pool (gone ++ items) → AreBlocksOf pool items
own_rest pool [] items h = h
own_rest pool (x ∷ gone) items h = own_rest pool gone items h.1

-- the blocks behind the one that is pinned
past_pinned : (o : Option Held) (ahead : List Sealed) → drop (pins o) (blocks_of (held_list o ++ ahead)) ≡ blocks_of ahead
past_pinned None ahead = refl
past_pinned (Some h) ahead = refl

behind_pinned : (pool : PoolName) (x : Place) → IsPlaced pool x → x.after ≡ Free → drop (pins x.shown) (blocks_of (file_items x)) ≡ blocks_of (ahead_items x)
behind_pinned pool x placed frees =
    ap (λ (xs : List Sealed). drop (pins x.shown) (blocks_of (xs ++ (held_list x.shown ++ ahead_items x)))) (placed.freed frees) ∙ past_pinned x.shown (ahead_items x)

pub no_blocks : (pool : PoolName) (x : Place) → IsPlaced pool x → x.after ≡ Free → x.ahead ≡ 0 → x.shown ≡ None → blocks_of (file_items x) ≡ []
no_blocks pool x placed frees none hidden =
    ap (λ (xs : List Sealed). blocks_of (xs ++ (held_list x.shown ++ ahead_items x))) (placed.freed frees)
    ∙ ap (λ (o : Option Held). blocks_of (held_list o ++ ahead_items x)) hidden
    ∙ ap (λ (n : ℕ). blocks_of (take n x.ring.items)) none

-- the bytes of the blocks ahead are of rows that are left
ahead_bytes : (kinds : List Kind) (x : Place) (rows : List Row) → Telling kinds x rows → length (joined_blocks (blocks_of (ahead_items x))) ≤ length (encoded rows)
ahead_bytes kinds x rows t =
    let h = t.are in
    let rest = over x.here (begun_at x ++ (current x).bytes) in
    let bytes = ap (λ (xs : List ℕ). length xs) (in_bytes kinds rest (ahead_items x) h.1 [] h.3) in
    let all = ap (λ (rs : List Row). length (encoded rs)) h.4 ∙ ap (λ (xs : List ℕ). length xs) (encoded-append h.0 h.1) in
    omega (arith, bytes, length-append rest (joined_blocks (blocks_of (ahead_items x))), length-append (encoded h.1) [], all, length-append (encoded h.0) (encoded h.1))

no_bytes : (x : Place) → x.ahead ≡ 0 → length (joined_blocks (blocks_of (ahead_items x))) ≡ 0
no_bytes x none = ap (λ (n : ℕ). length (joined_blocks (blocks_of (take n x.ring.items)))) none

pub left_bytes :
    (kinds : List Kind) (x : Place) (pool : PoolName) → IsReading kinds x → AreBlocksOf pool (file_items x) → x.after ≡ Free → pool.opening.tells ≡ true
    → length (joined_blocks (drop (pins x.shown) (blocks_of (file_items x)))) ≤ length (encoded (rows_left kinds x))
left_bytes kinds x pool r own frees tells =
    let rest = ap (λ (bs : List BlockValue). length (joined_blocks bs)) (behind_pinned r.pool x r.placed frees) in
    ⊎_elim
    (λ (none : x.here + x.ahead + pins x.shown ≡ 0). let e = no_bytes x (omega (arith, none)) in omega (arith, rest, e))
    (λ (some : 0 < x.here + x.ahead + pins x.shown).
    let P : PoolName → Type 0 = λ q. Tells kinds q x in
    let t = subst P (same_pool r.pool pool x r.placed own some) r.told tells in
    let left = ap (λ (rs : List Row). length (encoded rs)) (left_told kinds x t.0 t.1) in
    let bytes = ahead_bytes kinds x t.0 t.1 in
    omega (arith, rest, left, bytes))
    (none_or_some (x.here + x.ahead + pins x.shown))

pub drains :
    (w : Inside) (v : ConsumerValue) (first last : HandValue) (p : Place) (a h k b i j : ℕ) → consumer_value w ≡ v → IsConsumer w → AreOfPool first.pool v.blocks
    → Moved (kind_list w.kinds) first.pool (spot w) (at_spot p a h k) → IsReading (kind_list w.kinds) (at_spot p b i j)
    → last.permits + pins p.shown ≡ first.permits + pins w.place.shown → Frees (block_count w.place) (block_count p) first.notes last.notes → Follows first last
    → Drains first last v (consumer_value (moved_to w p b i j))
drains w v first last p a h k b i j is consumer own moved reading permits freed follows =
    let gone = items_left w first.pool p a h k consumer moved in
    let mine = own_items w v first.pool is own in
    let P : List Sealed → Type 0 = λ xs. AreBlocksOf first.pool xs in
    let rest = own_rest first.pool gone.0 (file_items (at_spot p b i j)) (subst P gone.1 mine) in
    let Q : PoolName → Type 0 = λ q. AreOfPool q (blocks_of (file_items (at_spot p b i j))) in
    let pinned = ap (λ (x : ConsumerValue). x.pinned) is in
    record {
      kinds = ap (λ (x : ConsumerValue). x.kinds) is;
      blocks = (blocks_of gone.0, sym (ap (λ (x : ConsumerValue). x.blocks) is) ∙ ap (λ (xs : List Sealed). blocks_of xs) gone.1 ∙ map-append (λ (s : Sealed). s.block) gone.0 (file_items (at_spot p b i j)));
      own = subst Q (sym follows.pool) (All-from_recursion (λ (x : BlockValue). x.pool ≡ first.pool) (blocks_of (file_items (at_spot p b i j))) rest);
      permits = omega (arith, permits, pinned);
      one = pins_le p.shown;
      gone =
          let before = count_blocks consumer.reading.pool (spot w) consumer.reading.placed in
          let all = ap (λ (x : ConsumerValue). length x.blocks) is in
          let after = count_blocks reading.pool (at_spot p b i j) reading.placed in
          (freed.0, omega (arith, freed.1, before, all, after));
      freed = λ tells. left_bytes (kind_list w.kinds) (at_spot p b i j) first.pool reading rest (moved.after ∙ consumer.frees) tells;
    }

all_own : (pool : PoolName) (items : List Sealed) → AllSealedIn pool items → AreBlocksOf pool items
all_own pool [] h = tt
all_own pool (x ∷ items) h = (h.0.of_pool, all_own pool items h.1)

own-append : (pool : PoolName) (xs ys : List Sealed) → AreBlocksOf pool xs → AreBlocksOf pool ys → AreBlocksOf pool (xs ++ ys)
own-append pool [] ys p q = q
own-append pool (x ∷ xs) ys p q = (p.0, own-append pool xs ys p.1 q)

-- what the ring has is of the pool, ahead and behind
pub ring_own : (pool : PoolName) (p : Place) → IsPlaced pool p → AreBlocksOf pool p.ring.items
ring_own pool p placed =
    let P : List Sealed → Type 0 = λ xs. AreBlocksOf pool xs in
    subst P (take-append-drop p.ahead p.ring.items)
    (own-append pool (ahead_items p) (drop p.ahead p.ring.items) (all_own pool (ahead_items p) placed.sealed) (all_own pool (drop p.ahead p.ring.items) placed.behind))

-- where the reader came to before it gives a row: to another place among the same blocks, or where it stood
pub record Arrived (w v : Inside) (first last : HandValue) : Type 0 where
  pub p : Place
  pub a : ℕ
  pub h : ℕ
  pub k : ℕ
  pub is : moved_to w p a h k ≡ v
  pub ready : Ready (kind_list w.kinds) (spot w) first.pool p a h k
  pub permits : last.permits + pins p.shown ≡ first.permits + pins w.place.shown
  pub gone : Frees (block_count w.place) (block_count p) first.notes last.notes
  pub follows : Follows first last

pub arrived :
    (w v : Inside) (first mid last : HandValue) (p : Place) (a h k : ℕ) → v ≡ moved_to w p a h k → last ≡ mid → Ready (kind_list w.kinds) (spot w) first.pool p a h k
    → mid.permits + pins p.shown ≡ first.permits + pins w.place.shown → Frees (block_count w.place) (block_count p) first.notes mid.notes → Follows first mid → Arrived w v first last
arrived w v first mid last p a h k is same ready permits gone follows =
    let To : HandValue → Type 0 = λ x. Arrived w v first x in
    subst To (sym same) (record { p = p; a = a; h = h; k = k; is = sym is; ready = ready; permits = permits; gone = gone; follows = follows })

pub stood :
    (w v : Inside) (first last : HandValue) → v ≡ w → last ≡ first → IsReading (kind_list w.kinds) (spot w) → AreBlocksOf first.pool (file_items (spot w)) → 0 < w.here → Arrived w v first last
stood w v first last is same reading own some =
    arrived w v first first last w.place w.at w.here w.kept is same (here_ready (kind_list w.kinds) first.pool w.place w.at w.here w.kept reading own some) refl (refl, refl) (follows_refl first)

pub consumer_after : (w v : Inside) (first last : HandValue) (o : Option RowRef) (b i j : ℕ) → IsConsumer w → Arrived w v first last → GivenAt (kind_list v.kinds) (spot v) o b i j → IsConsumer (moved_to v v.place b i j)
consumer_after w v first last o b i j consumer x =
    let To : Inside → Type 0 = λ y. GivenAt (kind_list y.kinds) (spot y) o b i j → IsConsumer (moved_to y y.place b i j) in
    subst To x.is (λ e.
    let reading = after_give row_in_ref o (kind_list w.kinds) (spot w) first.pool x.p x.a x.h x.k b i j x.ready e.within e.kept e.reads e.are e.some e.none e.stays in
    consumer_moved w first.pool x.p x.a x.h x.k b i j consumer x.ready.moved reading)

-- a row was given
pub record GaveOn (v : Inside) (value : ConsumerValue) (first last : HandValue) (row : Row) (b i j : ℕ) : Type 0 where
  pub gives : Gives first.pool value.kinds value.left row (consumer_value (moved_to v v.place b i j)).left
  pub one : pins v.place.shown ≡ 1
  pub drained : Drains first last value (consumer_value (moved_to v v.place b i j))
  pub room : first.permits + value.pinned ≤ last.permits + 1

pub gave_on :
    (w v : Inside) (value : ConsumerValue) (first last : HandValue) (row : RowRef) (b i j : ℕ) → consumer_value w ≡ value → IsConsumer w → AreOfPool first.pool value.blocks
    → Arrived w v first last → GivenAt (kind_list v.kinds) (spot v) (Some row) b i j → GaveOn v value first last (row_in_ref row) b i j
gave_on w v value first last row b i j is consumer own x =
    let To : Inside → Type 0 = λ y. GivenAt (kind_list y.kinds) (spot y) (Some row) b i j → GaveOn y value first last (row_in_ref row) b i j in
    subst To x.is (λ e.
    let reading = after_give row_in_ref (Some row) (kind_list w.kinds) (spot w) first.pool x.p x.a x.h x.k b i j x.ready e.within e.kept e.reads e.are e.some e.none e.stays in
    let pinned = ap (λ (z : ConsumerValue). z.pinned) is in
    let permits = x.permits in
    let GivesOf : ConsumerValue → Type 0 = λ z. Gives first.pool z.kinds z.left (row_in_ref row) (consumer_value (moved_to w x.p b i j)).left in
    record {
      gives = subst GivesOf is (gave (kind_list w.kinds) (spot w) first.pool x.p x.a x.h x.k b i j (row_in_ref row) x.ready e.within e.kept e.reads e.are e.some);
      one = x.ready.placed.some x.ready.some;
      drained = drains w value first last x.p x.a x.h x.k b i j is consumer own x.ready.moved reading permits x.gone x.follows;
      room = omega (arith, permits, pinned, pins_le x.p.shown);
    })

-- none was
pub record MissedOn (v : Inside) (value : ConsumerValue) (first last : HandValue) (b i j : ℕ) : Type 0 where
  pub stays : StaysAt first.pool value.left (consumer_value (moved_to v v.place b i j)).left
  pub untold : first.pool.opening.tells ≡ true → ⊥
  pub drained : Drains first last value (consumer_value (moved_to v v.place b i j))
  pub room : first.permits + value.pinned ≤ last.permits + 1

pub missed_on :
    (w v : Inside) (value : ConsumerValue) (first last : HandValue) (b i j : ℕ) → consumer_value w ≡ value → IsConsumer w → AreOfPool first.pool value.blocks
    → Arrived w v first last → GivenAt (kind_list v.kinds) (spot v) None b i j → MissedOn v value first last b i j
missed_on w v value first last b i j is consumer own x =
    let To : Inside → Type 0 = λ y. GivenAt (kind_list y.kinds) (spot y) None b i j → MissedOn y value first last b i j in
    subst To x.is (λ e.
    let nothing : Option RowRef = None in
    let reading = after_give row_in_ref nothing (kind_list w.kinds) (spot w) first.pool x.p x.a x.h x.k b i j x.ready e.within e.kept e.reads e.are e.some e.none e.stays in
    let pinned = ap (λ (z : ConsumerValue). z.pinned) is in
    let permits = x.permits in
    let StaysOf : ConsumerValue → Type 0 = λ z. StaysAt first.pool z.left (consumer_value (moved_to w x.p b i j)).left in
    record {
      stays = subst StaysOf is (missed (kind_list w.kinds) (spot w) first.pool x.p x.a x.h x.k b i j x.ready e.within e.kept e.none e.stays);
      untold = (misses_next (kind_list w.kinds) (spot w) first.pool x.p x.a x.h x.k b x.ready e.within e.none).untold;
      drained = drains w value first last x.p x.a x.h x.k b i j is consumer own x.ready.moved reading permits x.gone x.follows;
      room = omega (arith, permits, pinned, pins_le x.p.shown);
    })

-- A keeping reader: its file stays from row to row.
use Rattle.std.proofs.Common.{◌≡◌, ℕ, ◌+◌, ◌≤◌, ◌<◌, true, List, length, Option, None, Some, refl, sym, ap, subst, ◌∙◌, arith}
use Rattle.row_defs.specs.Rows.{Row}
use Rattle.dia_item.specs.KindList.{kind_list}
use Rattle.dia_item.specs.Lent.{row_in_ref}
use Rattle.dia_item.specs.declared.row_ref.RowRef.{RowRef}
use Rattle.block_pool.specs.Handles.{PoolName, BlockValue, HandValue, SameTally, Follows}
use Rattle.block_pool.specs.Follows.{follows_refl}
use Rattle.std.proofs.lemmas.List.Elements.{recursion_from_All}
use Rattle.dia_file.specs.declared.sealed.Sealed.{Sealed}
use Rattle.dia_file.specs.declared.place.After.{After}
use Rattle.dia_file.specs.declared.place.Place.{Place}
use Rattle.dia_file.specs.declared.keep.KeepReader.TheInside.{Inside}
use Rattle.dia_file.specs.Frames.{blocks_of, AreBlocksOf}
use Rattle.dia_file.specs.Files.{IsFileOf, IsStored, rows_stored}
use Rattle.dia_file.specs.Places.{at_spot, pins, block_count, file_items, Leaves, IsPlaced, Moved}
use Rattle.dia_file.specs.Readers.{KeeperValue, keeper_value, spot, IsReading, IsKeeper, Keeps, Gives, StaysAt}
use Rattle.dia_file.specs.Tallies.{Frees}
use Rattle.dia_file.proofs.Tallying.{count_placed, frees_none}
use Rattle.dia_file.proofs.ReaderLemmas.{pins_le, GivenAt, Ready, here_ready, gave, missed, misses_next, after_give}

abbrev pub moved_to : Inside → Place → ℕ → ℕ → ℕ → Inside
moved_to w p a h k = record w { place = p; at = a; here = h; kept = k }

pub own_items : (w : Inside) (v : KeeperValue) (pool : PoolName) → keeper_value w ≡ v → IsFileOf pool v.file → AreBlocksOf pool (file_items (spot w))
own_items w v pool is own =
    let P : KeeperValue → Type 0 = λ x. IsFileOf pool x.file in
    recursion_from_All (λ (b : BlockValue). b.pool ≡ pool) (blocks_of (file_items (spot w))) (subst P (sym is) own)

items_kept :
    (w : Inside) (pool : PoolName) (p : Place) (a h k : ℕ) → IsKeeper w → Moved (kind_list w.kinds) pool (spot w) (at_spot p a h k)
    → file_items (at_spot p a h k) ≡ file_items (spot w)
items_kept w pool p a h k i moved =
    let P : After → Type 0 = λ x. Leaves x (file_items (spot w)) (file_items (at_spot p a h k)) in subst P i.keeps moved.file

-- the reader at another place among the same blocks
pub keeper_moved :
    (w : Inside) (pool : PoolName) (p : Place) (a h k b i j : ℕ) → IsKeeper w → Moved (kind_list w.kinds) pool (spot w) (at_spot p a h k)
    → IsReading (kind_list w.kinds) (at_spot p b i j) → IsKeeper (moved_to w p b i j)
keeper_moved w pool p a h k b i j keeper moved reading =
    let P : List Sealed → Type 0 = λ xs. IsStored (kind_list w.kinds) xs w.rows w.bytes in
    record {
      reading = reading;
      stored = subst P (sym (items_kept w pool p a h k keeper moved)) keeper.stored;
      keeps = moved.after ∙ keeper.keeps;
    }

pub file_moved :
    (w : Inside) (v : KeeperValue) (pool : PoolName) (p : Place) (a h k b i j : ℕ) → keeper_value w ≡ v → IsKeeper w
    → Moved (kind_list w.kinds) pool (spot w) (at_spot p a h k) → (keeper_value (moved_to w p b i j)).file ≡ v.file
file_moved w v pool p a h k b i j is keeper moved =
    ap (λ (xs : List Sealed). record { kinds = kind_list w.kinds; rows = rows_stored (kind_list w.kinds) xs; blocks = blocks_of xs }) (items_kept w pool p a h k keeper moved)
    ∙ ap (λ (x : KeeperValue). x.file) is

-- the reader stands at another place among the same blocks: no block was made or freed
pub record KeptOn (w : Inside) (v : KeeperValue) (first last : HandValue) (p : Place) (b i j : ℕ) : Type 0 where
  pub keeps : Keeps first last v (keeper_value (moved_to w p b i j))
  pub room : first.permits + v.pinned ≤ last.permits + 1
  pub tally : SameTally first.notes last.notes

pub kept_on :
    (w : Inside) (v : KeeperValue) (first last : HandValue) (p : Place) (a h k b i j : ℕ) → keeper_value w ≡ v → IsKeeper w → IsPlaced first.pool (at_spot p a h k)
    → Moved (kind_list w.kinds) first.pool (spot w) (at_spot p a h k) → last.permits + pins p.shown ≡ first.permits + pins w.place.shown
    → Frees (block_count w.place) (block_count p) first.notes last.notes → KeptOn w v first last p b i j
kept_on w v first last p a h k b i j is keeper placed moved permits gone =
    let pinned = ap (λ (x : KeeperValue). x.pinned) is in
    let items = items_kept w first.pool p a h k keeper moved in
    let same = sym (count_placed keeper.reading.pool (spot w) keeper.reading.placed) ∙ ap (λ (xs : List Sealed). length xs) (sym items) ∙ count_placed first.pool (at_spot p a h k) placed in
    record {
      keeps = record { file = file_moved w v first.pool p a h k b i j is keeper moved; permits = omega (arith, permits, pinned); one = pins_le p.shown };
      room = omega (arith, permits, pinned, pins_le p.shown);
      tally = frees_none (block_count w.place) (block_count p) first.notes last.notes gone same;
    }

-- where the reader came to before it gives a row: to another place among the same blocks, or where it stood
pub record Arrived (w v : Inside) (first last : HandValue) : Type 0 where
  pub p : Place
  pub a : ℕ
  pub h : ℕ
  pub k : ℕ
  pub is : moved_to w p a h k ≡ v
  pub ready : Ready (kind_list w.kinds) (spot w) first.pool p a h k
  pub permits : last.permits + pins p.shown ≡ first.permits + pins w.place.shown
  pub gone : Frees (block_count w.place) (block_count p) first.notes last.notes
  pub follows : Follows first last

pub arrived :
    (w v : Inside) (first mid last : HandValue) (p : Place) (a h k : ℕ) → v ≡ moved_to w p a h k → last ≡ mid → Ready (kind_list w.kinds) (spot w) first.pool p a h k
    → mid.permits + pins p.shown ≡ first.permits + pins w.place.shown → Frees (block_count w.place) (block_count p) first.notes mid.notes → Follows first mid → Arrived w v first last
arrived w v first mid last p a h k is same ready permits gone follows =
    let To : HandValue → Type 0 = λ x. Arrived w v first x in
    subst To (sym same) (record { p = p; a = a; h = h; k = k; is = sym is; ready = ready; permits = permits; gone = gone; follows = follows })

pub stood :
    (w v : Inside) (first last : HandValue) → v ≡ w → last ≡ first → IsReading (kind_list w.kinds) (spot w) → AreBlocksOf first.pool (file_items (spot w)) → 0 < w.here → Arrived w v first last
stood w v first last is same reading own some =
    arrived w v first first last w.place w.at w.here w.kept is same (here_ready (kind_list w.kinds) first.pool w.place w.at w.here w.kept reading own some) refl (refl, refl) (follows_refl first)

pub keeper_after : (w v : Inside) (first last : HandValue) (o : Option RowRef) (b i j : ℕ) → IsKeeper w → Arrived w v first last → GivenAt (kind_list v.kinds) (spot v) o b i j → IsKeeper (moved_to v v.place b i j)
keeper_after w v first last o b i j keeper x =
    let To : Inside → Type 0 = λ y. GivenAt (kind_list y.kinds) (spot y) o b i j → IsKeeper (moved_to y y.place b i j) in
    subst To x.is (λ e.
    let reading = after_give row_in_ref o (kind_list w.kinds) (spot w) first.pool x.p x.a x.h x.k b i j x.ready e.within e.kept e.reads e.are e.some e.none e.stays in
    keeper_moved w first.pool x.p x.a x.h x.k b i j keeper x.ready.moved reading)

-- a row was given
pub record GaveOn (v : Inside) (value : KeeperValue) (first last : HandValue) (row : Row) (b i j : ℕ) : Type 0 where
  pub gives : Gives first.pool value.file.kinds value.left row (keeper_value (moved_to v v.place b i j)).left
  pub one : pins v.place.shown ≡ 1
  pub keeps : Keeps first last value (keeper_value (moved_to v v.place b i j))
  pub room : first.permits + value.pinned ≤ last.permits + 1
  pub tally : SameTally first.notes last.notes

pub gave_on :
    (w v : Inside) (value : KeeperValue) (first last : HandValue) (row : RowRef) (b i j : ℕ) → keeper_value w ≡ value → IsKeeper w → Arrived w v first last → GivenAt (kind_list v.kinds) (spot v) (Some row) b i j
    → GaveOn v value first last (row_in_ref row) b i j
gave_on w v value first last row b i j is keeper x =
    let To : Inside → Type 0 = λ y. GivenAt (kind_list y.kinds) (spot y) (Some row) b i j → GaveOn y value first last (row_in_ref row) b i j in
    subst To x.is (λ e.
    let on = kept_on w value first last x.p x.a x.h x.k b i j is keeper x.ready.placed x.ready.moved x.permits x.gone in
    let GivesOf : KeeperValue → Type 0 = λ z. Gives first.pool z.file.kinds z.left (row_in_ref row) (keeper_value (moved_to w x.p b i j)).left in
    record {
      gives = subst GivesOf is (gave (kind_list w.kinds) (spot w) first.pool x.p x.a x.h x.k b i j (row_in_ref row) x.ready e.within e.kept e.reads e.are e.some);
      one = x.ready.placed.some x.ready.some;
      keeps = on.keeps;
      room = on.room;
      tally = on.tally;
    })

-- none was
pub record MissedOn (v : Inside) (value : KeeperValue) (first last : HandValue) (b i j : ℕ) : Type 0 where
  pub stays : StaysAt first.pool value.left (keeper_value (moved_to v v.place b i j)).left
  pub untold : first.pool.opening.tells ≡ true → ⊥
  pub keeps : Keeps first last value (keeper_value (moved_to v v.place b i j))
  pub room : first.permits + value.pinned ≤ last.permits + 1
  pub tally : SameTally first.notes last.notes

pub missed_on :
    (w v : Inside) (value : KeeperValue) (first last : HandValue) (b i j : ℕ) → keeper_value w ≡ value → IsKeeper w → Arrived w v first last → GivenAt (kind_list v.kinds) (spot v) None b i j
    → MissedOn v value first last b i j
missed_on w v value first last b i j is keeper x =
    let To : Inside → Type 0 = λ y. GivenAt (kind_list y.kinds) (spot y) None b i j → MissedOn y value first last b i j in
    subst To x.is (λ e.
    let on = kept_on w value first last x.p x.a x.h x.k b i j is keeper x.ready.placed x.ready.moved x.permits x.gone in
    let StaysOf : KeeperValue → Type 0 = λ z. StaysAt first.pool z.left (keeper_value (moved_to w x.p b i j)).left in
    record {
      stays = subst StaysOf is (missed (kind_list w.kinds) (spot w) first.pool x.p x.a x.h x.k b i j x.ready e.within e.kept e.none e.stays);
      untold = (misses_next (kind_list w.kinds) (spot w) first.pool x.p x.a x.h x.k b x.ready e.within e.none).untold;
      keeps = on.keeps;
      room = on.room;
      tally = on.tally;
    })

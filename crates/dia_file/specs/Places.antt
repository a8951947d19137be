-- A place among the rows of blocks.
use Rattle.std.specs.Prelude.{◌≡◌, ℕ, ◌+◌, ◌-◌, ◌<◌, ◌≤◌, true, List, [], ◌∷◌, ◌++◌, length, take, drop, Option, None, Some, ⊤, vec_len, vec_capacity}
use Rattle.std.specs.List.{sum_by}
use Rattle.std.specs.VecDeque.{deque_len, deque_capacity}
use Rattle.row_defs.specs.declared.kind.Kind.{Kind}
use Rattle.row_defs.specs.Rows.{Row, IsRow}
use Rattle.dia_item.specs.Sizes.{longest_row}
use Rattle.block_pool.specs.Handles.{PoolName, BlockValue, PinnedValue}
use Rattle.dia_file.specs.Encoding.{spelled, ReadsRow, ReadsLong, HoldsNone}
use Rattle.dia_file.specs.Pieces.{Piece, rows_in, AreIn}
use Rattle.dia_file.specs.declared.sealed.Sealed.{Sealed}
use Rattle.dia_file.specs.Frames.{pieces, IsSealedIn, AllSealedIn}
use Rattle.dia_file.specs.declared.place.After.{After}
use Rattle.dia_file.specs.declared.place.After.TheVariants.{Keep, Free}
use Rattle.dia_file.specs.declared.place.Held.{Held}
use Rattle.dia_file.specs.declared.place.Place.{Place}

-- the block of a pin
abbrev pub block_in : PinnedValue → BlockValue
block_in p = record { pool = p.pool; bytes = p.bytes }

abbrev pub sealed_in : Held → Sealed
sealed_in h = record { block = block_in h.pinned; ends = h.ends; len = h.len }

abbrev pub held_list : Option Held → List Sealed
held_list None = []
held_list (Some h) = sealed_in h ∷ []

abbrev pub shown_bytes : Option Held → List ℕ
shown_bytes None = []
shown_bytes (Some h) = h.pinned.shown

abbrev pub pins : Option Held → ℕ
pins None = 0
pins (Some h) = 1

-- how many blocks there are: those of the ring, and the one that is pinned
abbrev pub block_count : Place → ℕ
block_count p = pins p.shown + deque_len p.ring

-- the blocks ahead, and all of them in their order: those behind, the one that is pinned, and those ahead
abbrev pub ahead_items : Place → List Sealed
ahead_items p = take p.ahead p.ring.items

abbrev pub file_items : Place → List Sealed
file_items p = drop p.ahead p.ring.items ++ (held_list p.shown ++ ahead_items p)

-- what stays of a block whose rows were read
abbrev pub left_of : After → Sealed → List Sealed
left_of Keep s = s ∷ []
left_of Free s = []

-- the blocks later on: the same ones, or those whose rows aren't all read
abbrev pub Leaves : After → List Sealed → List Sealed → Type 0
Leaves Keep before after = after ≡ before
Leaves Free before after = (gone : List Sealed) × (before ≡ gone ++ after)

-- what of a row was copied so far, and what is left of the block that is pinned
abbrev pub begun_at : Place → List ℕ
begun_at p = take p.kept p.buffer.items

abbrev pub current : Place → Piece
current p = record { bytes = drop p.at (shown_bytes p.shown); ends = p.here }

unfoldable pub rows_left : List Kind → Place → List Row
rows_left kinds p = rows_in kinds (begun_at p) (current p ∷ pieces (ahead_items p))

-- the same blocks, at another spot
abbrev pub at_spot : Place → ℕ → ℕ → ℕ → Place
at_spot p at here kept = record p { at = at; here = here; kept = kept }

-- the bytes of the row that is read next, as far as it may go, where a part of it was kept
abbrev pub long_bytes : Place → List ℕ
long_bytes p = begun_at p ++ take (longest_row - p.kept) (shown_bytes p.shown)

abbrev pub count_left : Place → ℕ
count_left p = p.here + sum_by (λ (s : Sealed). s.ends) (ahead_items p)

-- a block that is pinned shows as many bytes as were sealed in it, and these where the disk tells
pub record IsHeldIn (pool : PoolName) (h : Held) : Type 0 where
  pub is_sealed : IsSealedIn pool (sealed_in h)
  pub len : length h.pinned.shown ≡ h.len

abbrev pub IsHeld : PoolName → Option Held → Type 0
IsHeld pool None = ⊤
IsHeld pool (Some h) = IsHeldIn pool h

pub record IsPlaced (pool : PoolName) (p : Place) : Type 0 where
  pub ahead : p.ahead ≤ deque_len p.ring
  pub room : pins p.shown + deque_len p.ring ≤ deque_capacity p.ring
  pub sealed : AllSealedIn pool (ahead_items p)
  pub behind : AllSealedIn pool (drop p.ahead p.ring.items)
  pub held : IsHeld pool p.shown
  pub at : p.at ≤ length (shown_bytes p.shown)
  pub some : 0 < p.here → pins p.shown ≡ 1
  pub kept : p.kept ≤ vec_len p.buffer
  pub short : p.kept ≤ longest_row
  pub space : 0 < p.kept → longest_row ≤ vec_capacity p.buffer
  pub freed : p.after ≡ Free → drop p.ahead p.ring.items ≡ []

-- these are the rows that are left, where the disk tells
pub record Telling (kinds : List Kind) (p : Place) (rows : List Row) : Type 0 where
  pub are : AreIn kinds (begun_at p) (current p ∷ pieces (ahead_items p)) rows []
  pub done : p.here ≡ 0 → drop p.at (shown_bytes p.shown) ≡ []

abbrev pub Tells : List Kind → PoolName → Place → Type 0
Tells kinds pool p = pool.opening.tells ≡ true → (rows : List Row) × Telling kinds p rows

-- the same rows are left
pub record Moved (kinds : List Kind) (pool : PoolName) (a b : Place) : Type 0 where
  pub file : Leaves a.after (file_items a) (file_items b)
  pub after : b.after ≡ a.after
  pub count : count_left b ≡ count_left a
  pub told : pool.opening.tells ≡ true → (rows : List Row) → Telling kinds a rows → Telling kinds b rows

-- a row was read at a place: from the block that is pinned, or, where a part of it was kept, from the bytes that were copied
pub record GaveRow (kinds : List Kind) (a : Place) (row : Row) (b : Place) : Type 0 where
  pub short : a.kept ≡ 0 → ReadsRow kinds (drop a.at (shown_bytes a.shown)) row (drop b.at (shown_bytes b.shown))
  pub long : 0 < a.kept → ReadsLong kinds (long_bytes a) row (b.at + a.kept)

pub record GivesNone (kinds : List Kind) (a : Place) : Type 0 where
  pub short : a.kept ≡ 0 → HoldsNone kinds (drop a.at (shown_bytes a.shown))
  pub long : 0 < a.kept → (r : Row) (rest : List ℕ) → IsRow kinds (spelled r) r → long_bytes a ≡ spelled r ++ rest → a.kept ≤ length (spelled r) → ⊥

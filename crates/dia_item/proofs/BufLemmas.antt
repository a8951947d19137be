-- A row with one more column.
use Rattle.std.proofs.Common.{◌≡◌, ℕ, ◌+◌, ◌<◌, ◌≤◌, List, [], ◌∷◌, ◌++◌, length, refl, sym, ap, subst, ◌∙◌, append_assoc, append-nil, length-append, arith, vec_capacity}
use Rattle.row_defs.specs.declared.kind.Kind.{Kind}
use Rattle.dia_item.specs.declared.row_buf.RowBuf.TheInside.{Inside}
use Rattle.dia_item.specs.KindList.{kinds_in}
use Rattle.row_defs.specs.Rows.{Cell, Row, IsField, IsRow}
use Rattle.dia_item.specs.Reading.{row_of}
use Rattle.dia_item.specs.Room.{HasRoom, row_in}
use Rattle.dia_item.specs.Sizes.{longest_field, longest_row}
use Rattle.dia_item.proofs.RowLemmas.{row_is}
use Rattle.dia_item.proofs.LawLemmas.{row_short}

pub IsRow-append :
    (kinds : List Kind) (bytes : List ℕ) (row : Row) (kind : Kind) (spelled : List ℕ) (cell : Cell)
    → IsRow kinds bytes row → IsField kind spelled cell → IsRow (kinds ++ kind ∷ []) (bytes ++ spelled) (row ++ cell ∷ [])
IsRow-append [] bytes row kind spelled cell h f = (
  cell,
  [],
  spelled,
  [],
  f,
  (refl, refl),
  ap (λ (r : Row). r ++ cell ∷ []) h.1,
  ap (λ (b : List ℕ). b ++ spelled) h.0 ∙ sym (append-nil spelled),
)
IsRow-append (k ∷ kinds) bytes row kind spelled cell h f = (
  h.0,
  h.1 ++ cell ∷ [],
  h.2,
  h.3 ++ spelled,
  h.4,
  IsRow-append kinds h.3 h.1 kind spelled cell h.5 f,
  ap (λ (r : Row). r ++ cell ∷ []) h.6,
  ap (λ (b : List ℕ). b ++ spelled) h.7 ∙ append_assoc h.2 h.3 spelled,
)

pub record Grown (b : Inside) (kind : Kind) (spelled : List ℕ) (cell : Cell) (b' : Inside) : Type 0 where
  pub kinds : kinds_in b'.kinds ≡ kinds_in b.kinds ++ kind ∷ []
  pub items : b'.bytes.items ≡ b.bytes.items ++ spelled
  pub capacity : vec_capacity b.bytes ≤ vec_capacity b'.bytes
  pub field : IsField kind spelled cell
  pub short : length spelled ≤ longest_field
  pub columns : length (kinds_in b.kinds) < 6

grown_is : (b : Inside) (kind : Kind) (spelled : List ℕ) (cell : Cell) (b' : Inside) → HasRoom b → Grown b kind spelled cell b' → IsRow (kinds_in b'.kinds) b'.bytes.items (row_in b ++ cell ∷ [])
grown_is b kind spelled cell b' h g = rw (g.kinds, g.items) (IsRow-append (kinds_in b.kinds) b.bytes.items (row_in b) kind spelled cell h.is g.field)

pub grown_row : (b : Inside) (kind : Kind) (spelled : List ℕ) (cell : Cell) (b' : Inside) → HasRoom b → Grown b kind spelled cell b' → row_in b' ≡ row_in b ++ cell ∷ []
grown_row b kind spelled cell b' h g = row_is (kinds_in b'.kinds) b'.bytes.items (row_in b ++ cell ∷ []) (grown_is b kind spelled cell b' h g)

pub grown_room : (b : Inside) (kind : Kind) (spelled : List ℕ) (cell : Cell) (b' : Inside) → HasRoom b → Grown b kind spelled cell b' → HasRoom b'
grown_room b kind spelled cell b' h g =
    let n : length (kinds_in b'.kinds) ≡ length (kinds_in b.kinds) + 1 = ap (λ (ks : List Kind). length ks) g.kinds ∙ length-append (kinds_in b.kinds) (kind ∷ []) in
    let P : Row → Type 0 = λ row. IsRow (kinds_in b'.kinds) b'.bytes.items row in
    record {
      is = subst P (sym (grown_row b kind spelled cell b' h g)) (grown_is b kind spelled cell b' h g);
      columns = omega (arith, n, g.columns);
      len = omega (arith, n, g.short, h.len, ap (λ (xs : List ℕ). length xs) g.items, length-append b.bytes.items spelled);
      room = omega (arith, g.capacity, h.room);
    }

row_of_none : (bytes : List ℕ) → row_of [] bytes ≡ []
unfolding row_of
row_of_none bytes = refl

pub empty_row : (b : Inside) → kinds_in b.kinds ≡ [] → row_in b ≡ []
empty_row b k = rw k (row_of_none b.bytes.items)

pub empty_room : (b : Inside) → kinds_in b.kinds ≡ [] → b.bytes.items ≡ [] → longest_row ≤ vec_capacity b.bytes → HasRoom b
empty_room b k i room = record {
  is = rw (k, i) (refl, row_of_none []);
  columns = rw k (omega arith);
  len = rw (k, i) (omega arith);
  room = room;
}

-- a buffer that took over a row
pub record Copied (ks : List Kind) (bytes : List ℕ) (row : Row) (b : Inside) : Type 0 where
  pub is : IsRow ks bytes row
  pub kinds : kinds_in b.kinds ≡ ks
  pub items : b.bytes.items ≡ bytes
  pub columns : length (kinds_in b.kinds) ≤ 6
  pub room : longest_row ≤ vec_capacity b.bytes

copied_is : (ks : List Kind) (bytes : List ℕ) (row : Row) (b : Inside) → Copied ks bytes row b → IsRow (kinds_in b.kinds) b.bytes.items row
copied_is ks bytes row b h = rw (h.kinds, h.items) h.is

pub copied_row : (ks : List Kind) (bytes : List ℕ) (row : Row) (b : Inside) → Copied ks bytes row b → row_in b ≡ row
copied_row ks bytes row b h = row_is (kinds_in b.kinds) b.bytes.items row (copied_is ks bytes row b h)

pub copied_room : (ks : List Kind) (bytes : List ℕ) (row : Row) (b : Inside) → Copied ks bytes row b → HasRoom b
copied_room ks bytes row b h =
    let P : Row → Type 0 = λ r. IsRow (kinds_in b.kinds) b.bytes.items r in
    record {
      is = subst P (sym (copied_row ks bytes row b h)) (copied_is ks bytes row b h);
      columns = h.columns;
      len = row_short (kinds_in b.kinds) b.bytes.items row (copied_is ks bytes row b h);
      room = h.room;
    }

-- a buffer whose only column was set
pub alone : (kind : Kind) (spelled : List ℕ) (cell : Cell) (b : Inside) → IsField kind spelled cell → kinds_in b.kinds ≡ kind ∷ [] → b.bytes.items ≡ spelled
    → longest_row ≤ vec_capacity b.bytes → Copied (kind ∷ []) spelled (cell ∷ []) b
alone kind spelled cell b field kinds items room = record {
  is = IsRow-append [] [] [] kind spelled cell (refl, refl) field;
  kinds = kinds;
  items = items;
  columns = omega (arith, ap (λ (ks : List Kind). length ks) kinds);
  room = room;
}

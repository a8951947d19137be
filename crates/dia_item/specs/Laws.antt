-- What the encoding of rows keeps, for all kinds, bytes and rows.
use Rattle.std.specs.Prelude.{◌≡◌, ◌≤◌, List, ◌++◌, ℕ, length, take, All}
use Rattle.row_defs.specs.declared.kind.Kind.{Kind}
use Rattle.row_defs.specs.Rows.{Row, IsRow, kinds_of, Fits}

-- a row has the kinds that it is read with, and its cells fit
abbrev pub HaveTheirKinds : Type 0
HaveTheirKinds = (kinds : List Kind) (bytes : List ℕ) (row : Row) → IsRow kinds bytes row → (kinds_of row ≡ kinds) × All Fits row

-- cells that fit have a spelling
abbrev pub HaveSpellings : Type 0
HaveSpellings = (row : Row) → All Fits row → (bytes : List ℕ) × IsRow (kinds_of row) bytes row

-- and only one
abbrev pub AreSpelledOnce : Type 0
AreSpelledOnce =
    (kinds others : List Kind) (bytes spelled : List ℕ) (row : Row)
    → IsRow kinds bytes row → IsRow others spelled row → (kinds ≡ others) × (bytes ≡ spelled)

-- where two rows of the same kinds begin the same bytes, they are one row in one spelling
abbrev pub AreNoPrefixes : Type 0
AreNoPrefixes =
    (kinds : List Kind) (bytes rest longer more : List ℕ) (row other : Row)
    → IsRow kinds bytes row → IsRow kinds longer other → bytes ++ rest ≡ longer ++ more
    → (bytes ≡ longer) × (row ≡ other)

-- the spelling of a row is read as this row and as nothing else, whatever bytes follow it
abbrev pub AreReadAgain : Type 0
AreReadAgain =
    (kinds : List Kind) (bytes rest : List ℕ) (row : Row) → IsRow kinds bytes row
    → IsRow kinds (take (length bytes) (bytes ++ rest)) row
    × ((n : ℕ) (other : Row) → n ≤ length (bytes ++ rest) → IsRow kinds (take n (bytes ++ rest)) other → (other ≡ row) × (n ≡ length bytes))

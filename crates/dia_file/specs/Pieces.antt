-- Rows in pieces of bytes, where a row may span pieces.
use Rattle.std.specs.Prelude.{◌≡◌, ℕ, zero, suc, ◌<◌, ◌≤◌, List, [], ◌∷◌, ◌++◌, length}
use Rattle.row_defs.specs.declared.kind.Kind.{Kind}
use Rattle.row_defs.specs.Rows.{Row}
use Rattle.dia_file.specs.Encoding.{spelled, encoded, AreOf, rows_of}

-- bytes, and how many rows end in them
pub record Piece : Type 0 where
  pub bytes : List ℕ
  pub ends : ℕ

-- where no row ends, the row that has begun goes on behind these bytes; else nothing does
abbrev pub over : ℕ → List ℕ → List ℕ
over zero bytes = bytes
over (suc n) bytes = []

-- the rows of pieces, where some bytes of the first row went before
unfoldable pub rows_in : List Kind → List ℕ → List Piece → List Row
rows_in kinds begun [] = []
rows_in kinds begun (p ∷ ps) = rows_of kinds p.ends (begun ++ p.bytes) ++ rows_in kinds (over p.ends (begun ++ p.bytes)) ps

abbrev pub first_bytes : List Row → List ℕ
first_bytes [] = []
first_bytes (row ∷ rows) = spelled row

-- these rows end in the piece, and where there are any, nothing but them stands in it and before it
pub record IsPiece (kinds : List Kind) (begun : List ℕ) (p : Piece) (rows : List Row) : Type 0 where
  pub len : length rows ≡ p.ends
  pub are : AreOf kinds rows
  pub bytes : 0 < p.ends → begun ++ p.bytes ≡ encoded rows
  pub covers : 0 < p.ends → length begun ≤ length (first_bytes rows)

-- these are the rows of the pieces, and the rest is what has begun behind them
abbrev pub AreIn : List Kind → List ℕ → List Piece → List Row → List ℕ → Type 0
AreIn kinds begun [] rows rest = (rows ≡ []) × (rest ≡ begun)
AreIn kinds begun (p ∷ ps) rows rest =
    (front : List Row) × (more : List Row) × IsPiece kinds begun p front
    × AreIn kinds (over p.ends (begun ++ p.bytes)) ps more rest × (rows ≡ front ++ more)

-- the same as a fact with a name
pub record HoldsRows (kinds : List Kind) (begun : List ℕ) (ps : List Piece) (rows : List Row) (rest : List ℕ) : Type 0 where
  pub are : AreIn kinds begun ps rows rest

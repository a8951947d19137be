-- Lines that are taken from an input, piece by piece.
use Rattle.std.specs.Prelude.{◌≡◌, ℕ, ◌+◌, ◌<◌, Bool, true, List, ◌∷◌, ◌++◌, length, nat_le}
use Rattle.std.specs.List.{list_all}
use Rattle.row_defs.specs.Limits.{longest_text}
use Rattle.row_defs.specs.Pieces.{pieces_from, lines_of, line_feed}
use Rattle.dia_lines.specs.declared.line_taker.LineTaker.{Ghosts}
use Rattle.dia_lines.specs.declared.cutter.Cutter.{Cutter}
use Rattle.dia_lines.specs.declared.cutter.TakeErr.{TakeErr}
use Rattle.dia_lines.specs.declared.cutter.TakeErr.TheVariants.{LineTooLong, Refused}

-- a line may be a text
abbrev pub is_text : List ℕ → Bool
is_text line = nat_le (length line) longest_text

-- after these bytes of an input: the taker took the lines that ended, and the run is what came of the next
pub record AreTaken {T D R : Type 0} (g : Ghosts T D R) (began now : T) (ended : ℕ) (run seen : List ℕ) : Type 0 where
  pub done : List (List ℕ)
  pub took : g.took began done now
  pub count : ended ≡ length done
  pub pieces : (more : List ℕ) → done ++ pieces_from line_feed run more ≡ lines_of (seen ++ more)
  pub texts : list_all is_text done ≡ true

abbrev pub HasTaken : {T D R : Type 0} → Ghosts T D R → T → T → Cutter → List ℕ → Type 0
HasTaken g began now cutter seen = AreTaken g began now cutter.ended cutter.run.items seen

-- whatever follows these bytes, the line with this number, from 1, is too long, and none before it is
pub record IsLong (n : ℕ) (seen : List ℕ) : Type 0 where
  pub done : List (List ℕ)
  pub count : n ≡ length done + 1
  pub texts : list_all is_text done ≡ true
  pub pieces : (more : List ℕ) → (long : List ℕ) × (later : List (List ℕ)) × (longest_text < length long) × (lines_of (seen ++ more) ≡ done ++ long ∷ later)

-- these bytes are some lines that the taker took, one that it refused, and later ones
pub record IsTurnedAway {T D R : Type 0} (g : Ghosts T D R) (began : T) (a : D) (now : T) (b : D) (e : R) (bytes : List ℕ) : Type 0 where
  pub done : List (List ℕ)
  pub line : List ℕ
  pub later : List (List ℕ)
  pub at : T  -- the taker when the line was refused
  pub took : g.took began done at
  pub refused : g.refused at a line e now b
  pub lines : lines_of bytes ≡ done ++ line ∷ later

-- a piece wasn't taken: whatever follows these bytes, a line is too long, or the taker refused one
abbrev pub IsTakeReason : {T D R : Type 0} → Ghosts T D R → T → D → T → D → TakeErr R → List ℕ → Type 0
IsTakeReason g began a now b (LineTooLong n) seen = IsLong n seen
IsTakeReason g began a now b (Refused e) seen = (more : List ℕ) → IsTurnedAway g began a now b e (seen ++ more)

-- the taker refused some line
pub record RefusedLine {T D R : Type 0} (g : Ghosts T D R) (a : D) (now : T) (b : D) (e : R) : Type 0 where
  pub at : T  -- the taker when the line was refused
  pub line : List ℕ
  pub refused : g.refused at a line e now b

-- where a refusal is the taker's own, it refused some line
abbrev pub IsOfTaker : {T D R : Type 0} → Ghosts T D R → D → T → D → TakeErr R → Type 0
IsOfTaker g a now b (LineTooLong n) = Unit {0}
IsOfTaker g a now b (Refused e) = RefusedLine g a now b e

-- some prefix of the bytes was taken, and the rest is left
pub record Consumes {T D R : Type 0} (g : Ghosts T D R) (t : T) (before : Cutter) (u : T) (after : Cutter) (bytes rest : List ℕ) : Type 0 where
  pub prefix : List ℕ
  pub parts : bytes ≡ prefix ++ rest
  pub taken : (began : T) (seen : List ℕ) → HasTaken g began t before seen → HasTaken g began u after (seen ++ prefix)

-- the refusal is that of some prefix of the bytes
pub record IsCut {T D R : Type 0} (g : Ghosts T D R) (began : T) (a : D) (now : T) (b : D) (e : TakeErr R) (seen bytes : List ℕ) : Type 0 where
  pub prefix : List ℕ
  pub rest : List ℕ
  pub parts : bytes ≡ prefix ++ rest
  pub reason : IsTakeReason g began a now b e (seen ++ prefix)

-- the taker took all lines of the bytes, each of which may be a text
pub record TookAllOf {T D R : Type 0} (g : Ghosts T D R) (began now : T) (bytes : List ℕ) : Type 0 where
  pub took : g.took began (lines_of bytes) now
  pub texts : list_all is_text (lines_of bytes) ≡ true

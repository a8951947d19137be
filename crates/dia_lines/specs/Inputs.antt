-- What reading an input answers, beside what the input holds.
use Rattle.std.specs.Prelude.{◌≡◌, ℕ, List, ◌++◌, Option, None, Some, IfSome, Result, Ok, Err, length}
use Rattle.row_defs.specs.Rows.{Row}
use Rattle.row_defs.specs.Pieces.{lines_of, line_rows}
use Rattle.row_defs.specs.Inputs.{missing, line_too_long, input_too_long, failure_of_input}
use Rattle.dia_edge.specs.Counts.{TellsCount}
use Rattle.dia_edge.specs.Shelves.{GivesPrefix, IsOpened, ShelfStays, and_asked}
use Rattle.dia_edge.specs.declared.shelf.Shelf as shelves
use Rattle.dia_lines.specs.declared.line_taker.LineTaker.{Ghosts}
use Rattle.dia_lines.specs.declared.cutter.Cutter.{Cutter}
use Rattle.dia_lines.specs.declared.cutter.TakeErr.{TakeErr}
use Rattle.dia_lines.specs.declared.cutter.TakeErr.TheVariants as takes
use Rattle.dia_lines.specs.declared.input.InputErr.{InputErr}
use Rattle.dia_lines.specs.declared.input.InputErr.TheVariants.{Missing, LineTooLong, InputTooLong, Refused, Read, NoMemory}
use Rattle.dia_lines.specs.Taking.{HasTaken, IsTurnedAway, RefusedLine}

-- what each call keeps of a shelf
abbrev pub Stays : {N : Type 0} → shelves.Ghosts N → N → N → Type 0
Stays g old new = ShelfStays g.holds g.left g.asked g.is_fixed g.faults old new

-- the shelf was asked for these names in order, but for those that are left
pub record AskedBut {N : Type 0} (g : shelves.Ghosts N) (old new : N) (names left : List (List ℕ)) : Type 0 where
  pub done : List (List ℕ)
  pub parts : names ≡ done ++ left
  pub is : g.asked new ≡ and_asked (g.asked old) done

-- for some first of these names
abbrev pub AskedSome : {N : Type 0} → shelves.Ghosts N → N → N → List (List ℕ) → Type 0
AskedSome g old new names = (left : List (List ℕ)) × AskedBut g old new names left

-- for all of them where the call went well, else for some first of them
abbrev pub Asks : {N V E : Type 0} → shelves.Ghosts N → N → N → List (List ℕ) → Result V E → Type 0
Asks g old new names (Ok answer) = g.asked new ≡ and_asked (g.asked old) names
Asks g old new names (Err e) = AskedSome g old new names

-- the refusal is just the one that the definitions give for what the name holds; the taker's own is that of one of the
-- lines of what it holds
abbrev pub IsInputReason : {T D R : Type 0} → Ghosts T D R → T → D → T → D → InputErr R → Option (List ℕ) → Type 0
IsInputReason g began a now b Missing held = failure_of_input held ≡ Some missing
IsInputReason g began a now b (LineTooLong line) held = failure_of_input held ≡ Some (line_too_long line)
IsInputReason g began a now b InputTooLong held = failure_of_input held ≡ Some input_too_long
IsInputReason g began a now b (Refused e) held = IfSome held (IsTurnedAway g began a now b e)
IsInputReason g began a now b (Read count) held = Unit {0}
IsInputReason g began a now b NoMemory held = Unit {0}

-- the same but for the taker's own
abbrev pub IsInputCause : {R : Type 0} → InputErr R → Option (List ℕ) → Type 0
IsInputCause Missing held = failure_of_input held ≡ Some missing
IsInputCause (LineTooLong line) held = failure_of_input held ≡ Some (line_too_long line)
IsInputCause InputTooLong held = failure_of_input held ≡ Some input_too_long
IsInputCause (Refused e) held = Unit {0}
IsInputCause (Read count) held = Unit {0}
IsInputCause NoMemory held = Unit {0}

-- where a refusal is the taker's own, it refused some line
abbrev pub IsTakersOwn : {T D R : Type 0} → Ghosts T D R → D → T → D → InputErr R → Type 0
IsTakersOwn g a now b (Refused e) = RefusedLine g a now b e
IsTakersOwn g a now b _ = Unit {0}

-- the rows are those of the input's lines, and nothing keeps them from being read
pub record IsInput (rows : List Row) (held : Option (List ℕ)) : Type 0 where
  pub bytes : List ℕ
  pub there : held ≡ Some bytes
  pub lines : rows ≡ line_rows bytes
  pub free : failure_of_input held ≡ None

-- what the reading of an opened input has come to: so many bytes were read, their lines were taken, and the rest is left
pub record IsReading {T D R : Type 0} (g : Ghosts T D R) (all : Option (List ℕ)) (began now : T) (cutter : Cutter) (total : ℕ) (left : Option (List ℕ)) : Type 0 where
  pub seen : List ℕ
  pub taken : HasTaken g began now cutter seen
  pub count : length seen ≡ total
  pub prefix : GivesPrefix all seen left

-- the taker took the input's lines, and nothing keeps them from being read
pub record TookInput {T D R : Type 0} (g : Ghosts T D R) (began now : T) (held : Option (List ℕ)) : Type 0 where
  pub bytes : List ℕ
  pub there : held ≡ Some bytes
  pub took : g.took began (lines_of bytes) now
  pub free : failure_of_input held ≡ None

-- the taker took the lines of what the name held when the shelf opened it
pub record TookOpened {N T D R : Type 0} (s : shelves.Ghosts N) (g : Ghosts T D R) (old : N) (name : List ℕ) (began now : T) : Type 0 where
  pub at : N  -- the shelf when it was opened
  pub stays : Stays s old at
  pub opened : IsOpened (s.holds at) name (s.left at)
  pub took : IfSome (s.left at) (λ bytes. TookInput g began now (Some bytes))

-- a fault of the shelf tells the count now, which rose
abbrev pub IsReadFault : {R : Type 0} → InputErr R → ℕ → ℕ → Type 0
IsReadFault (Read count) before now = TellsCount count before now
IsReadFault _ before now = Unit {0}

-- the error of an input whose piece wasn't taken
abbrev pub reason_of : {R : Type 0} → TakeErr R → InputErr R
reason_of (takes.LineTooLong n) = LineTooLong n
reason_of (takes.Refused e) = Refused e

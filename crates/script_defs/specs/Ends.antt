-- How runs end: what was done, what was printed by then, and why the next item isn't done.
use Rattle.std.specs.Prelude.{◌≡◌, ℕ, List, ◌∷◌, ◌++◌, length, drop, Some}
use Rattle.row_defs.specs.Inputs.{Inputs, InputFailure}
use Rattle.script_defs.specs.Scripts.{lines_form, line, Script, statement_at}
use Rattle.script_defs.specs.Lists.{Lists, input_failure, too_many_rows}
use Rattle.script_defs.specs.Work.{Item, do_line, number_of, work_of}
use Rattle.script_defs.specs.Runs.{IsRun, failure_of, run_texts}

-- each of the lines among the first n items of the work has one list, a result of its definition on the lists that it
-- names, and these bytes are the texts of the actions among them on these lists
pub record IsDone (script : Script) (inputs : Inputs) (n : ℕ) (took : List ℕ) : Type 0 where
  pub lists : Lists
  pub run : IsRun script inputs lists n
  pub texts : took ≡ run_texts script lists n

-- the same, and the next item can't be done, for this cause; it is the line of the input with this name
pub record IsStopped (script : Script) (inputs : Inputs) (name : List ℕ) (cause : InputFailure) (took : List ℕ) : Type 0 where
  pub count : ℕ
  pub done : IsDone script inputs count took
  pub next : ℕ
  pub left : List Item
  pub work : drop count (work_of script) ≡ do_line next ∷ left
  pub defined : List ℕ
  pub is : statement_at script next ≡ Some (line defined (lines_form name))
  pub fails : failure_of script inputs done.lists (do_line next) ≡ Some (input_failure cause)

-- the same, and the next item is the line or the action with this number, at which more rows arrive than may
pub record IsTooMany (script : Script) (inputs : Inputs) (n : ℕ) (took : List ℕ) : Type 0 where
  pub count : ℕ
  pub done : IsDone script inputs count took
  pub item : Item
  pub left : List Item
  pub work : drop count (work_of script) ≡ item ∷ left
  pub number : number_of item ≡ n
  pub fails : failure_of script inputs done.lists item ≡ Some too_many_rows

-- these bytes are a prefix of the texts of some first items
pub record IsCutOff (script : Script) (inputs : Inputs) (took : List ℕ) : Type 0 where
  pub count : ℕ
  pub all : List ℕ
  pub done : IsDone script inputs count all
  pub rest : List ℕ
  pub parts : all ≡ took ++ rest

-- the ways in which the run of an accepted script ends
pub data Ending : Type 0 where
  whole : Ending
  stopped : List ℕ → InputFailure → Ending
  too_many : ℕ → Ending
  cut_off : Ending

-- it ends in this one, and these bytes were printed
abbrev pub IsEnd : Script → Inputs → Ending → List ℕ → Type 0
IsEnd script inputs whole took = IsDone script inputs (length (work_of script)) took
IsEnd script inputs (stopped name cause) took = IsStopped script inputs name cause took
IsEnd script inputs (too_many n) took = IsTooMany script inputs n took
IsEnd script inputs cut_off took = IsCutOff script inputs took

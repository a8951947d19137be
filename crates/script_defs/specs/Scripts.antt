-- Scripts: statements by line number. Operands are line numbers.
use Rattle.std.specs.Prelude.{◌≡◌, ℕ, List, [], ◌∷◌, Option, None, Some, ◌==◌, if◌then◌else◌}
use Rattle.row_defs.specs.declared.kind.Kind.{Kind}
use Rattle.row_defs.specs.declared.kind.Kind.TheVariants.{Int, Text}
use Rattle.row_defs.specs.LocalOps.{LocalOp, op_kinds}

-- what a line is
pub data Form : Type 0 where
  lines_form : List ℕ → Form  -- an input's lines, by the input's name
  generate_form : ℕ → Form  -- the numbers below this one
  local_form : ℕ → LocalOp → Form  -- the rows that a local line makes of an earlier line's
  cache_form : ℕ → Form  -- the list of an earlier line, done once and kept

pub data Action : Type 0 where
  print_action : ℕ → Action
  size_action : ℕ → Action
  sum_action : ℕ → ℕ → Action  -- of which line, and of which column

pub data Statement : Type 0 where
  line : List ℕ → Form → Statement  -- a name, and the line that it stands for
  act : Action → Statement

pub record Numbered : Type 0 where
  pub number : ℕ
  pub statement : Statement

abbrev pub Script : Type 0
Script = List Numbered

-- the statement with this number
abbrev pub statement_at : Script → ℕ → Option Statement
statement_at [] n = None
statement_at (s ∷ later) n = if s.number == n then Some s.statement else statement_at later n

-- the statement with this number is a line
abbrev pub IsLineIn : Script → ℕ → Type 0
IsLineIn script n = (name : List ℕ) × (form : Form) × (statement_at script n ≡ Some (line name form))

-- what a line stands on ---------------------------------------------------------------------------------------

-- how a line comes to its rows
pub data Origin : Type 0 where
  stored : Origin  -- it is done once, and its rows are kept
  counted : ℕ → Origin  -- the numbers below this one, made anew at each use
  made : ℕ → LocalOp → Origin  -- what a local line makes of an earlier line's rows, made anew at each use

abbrev pub origin_of : Form → Origin
origin_of (lines_form input) = stored
origin_of (generate_form count) = counted count
origin_of (local_form of op) = made of op
origin_of (cache_form of) = stored

-- the lines that a statement names
abbrev pub form_operands : Form → List ℕ
form_operands (lines_form input) = []
form_operands (generate_form count) = []
form_operands (local_form of op) = of ∷ []
form_operands (cache_form of) = of ∷ []

abbrev pub action_operand : Action → ℕ
action_operand (print_action of) = of
action_operand (size_action of) = of
action_operand (sum_action of column) = of

abbrev pub operands_of : Statement → List ℕ
operands_of (line name form) = form_operands form
operands_of (act action) = action_operand action ∷ []

-- the kinds of the first operand's rows
abbrev pub first_kinds : List (List Kind) → List Kind
first_kinds [] = []
first_kinds (kinds ∷ more) = kinds

-- the kinds of a line's rows, where the rows of its operands, in order, have these
abbrev pub form_kinds : List (List Kind) → Form → List Kind
form_kinds operands (lines_form input) = Text ∷ []
form_kinds operands (generate_form count) = Int ∷ []
form_kinds operands (local_form of op) = op_kinds (first_kinds operands) op
form_kinds operands (cache_form of) = first_kinds operands

-- an action has no rows
abbrev pub statement_kinds : List (List Kind) → Statement → List Kind
statement_kinds operands (line name form) = form_kinds operands form
statement_kinds operands (act action) = []

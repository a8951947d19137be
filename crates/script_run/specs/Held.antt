-- What the workers of a run hold.
use Rattle.std.specs.Prelude.{◌≡◌, ℕ, ◌<◌, ◌≤◌, Bool, false, List, [], ◌∷◌, All, length, Option, None, Some, IsSome, if◌then◌else◌}
use Rattle.std.specs.Option.{option_map}
use Rattle.std.specs.List.{AllZip, flat_map}
use Rattle.row_defs.specs.Rows.{Row}
use Rattle.row_defs.specs.Inputs.{Inputs}
use Rattle.row_defs.specs.declared.kind.Kind.TheVariants.{Int}
use Rattle.row_defs.specs.LocalOps.{AreSoundOps}
use Rattle.row_defs.specs.Operands.{Root, stored_root, count_root, root_line, Operand}
use Rattle.script_defs.specs.Scripts.{line, cache_form, Script, statement_at}
use Rattle.script_defs.specs.Plans.{IsOperand, kinds_at}
use Rattle.dia_edge.specs.Shelves.{Holdings}
use Rattle.worker_step.specs.declared.task.TheConstants.{MOST_TASKS}
use Rattle.block_pool.specs.Handles.{HandValue, Follows}
use Rattle.dia_file.specs.Files.{FileValue}
use Rattle.scatter.specs.Lines.{LineValue, Lines, files_in}
use Rattle.scatter.specs.Nets.{AreOfOnePool}
use Rattle.scatter.specs.Phases.{pools_of}
use Rattle.scatter.specs.Stocks.{AreInPools, lines_of}
use Rattle.sink_files.specs.Ending.{HasTwoPermits}
use Rattle.stage_laws.specs.Standing.{Kept, HasRows}
use Rattle.script_run.specs.declared.team.Team.{Team}

-- the script, the lines in stock, the workers' hands, and the text that waits to be written
pub record Held : Type 0 where
  pub script : Script
  pub lines : Lines
  pub workers : ℕ
  pub hands : List HandValue
  pub waits : List ℕ

abbrev pub held_of : {D G : Type 0} → Team D G → Held
held_of team = record { script = team.script.now; lines = lines_of team.stock; workers = team.stock.workers; hands = team.hands.items; waits = team.buffer }

-- the rows of a line's files, joined by rank
abbrev pub rows_of_line : LineValue → List Row
rows_of_line kept = flat_map (λ (f : FileValue). f.rows) (files_in kept)

abbrev pub kept_by : Lines → Kept
kept_by lines n = option_map rows_of_line (lines n)

-- a line whose rows have the kinds that the script gives them, with none of its parts lent
pub record IsKept (script : Script) (n : ℕ) (line : LineValue) : Type 0 where
  pub kinds : line.kinds ≡ kinds_at script n
  pub whole : All IsSome line.parts

-- the workers stand between two stages: each has its hand, of one pool and with a permit to read and one to write, all lines are
-- there, and no text waits
pub record IsReady (h : Held) : Type 0 where
  pub count : length h.hands ≡ h.workers
  pub some : 0 < h.workers
  pub few : h.workers ≤ MOST_TASKS
  pub one : AreOfOnePool h.hands
  pub permits : All HasTwoPermits h.hands
  pub own : AreInPools (pools_of h.hands) h.lines
  pub kept : (n : ℕ) (line : LineValue) → h.lines n ≡ Some line → IsKept h.script n line
  pub empty : h.waits ≡ []

-- what stays, whatever a stage answers
pub record HeldStays (old new : Held) : Type 0 where
  pub script : new.script ≡ old.script
  pub workers : new.workers ≡ old.workers
  pub follows : AllZip Follows old.hands new.hands

-- where the root has numbers, its line's rows are numbers
abbrev pub AreNumbers : Script → Root → Type 0
AreNumbers script (stored_root n) = Unit {0}
AreNumbers script (count_root n rows) = kinds_at script n ≡ Int ∷ []

-- an operand can be read: the rows at its root are there, and the local lines take them
pub record CanRead (script : Script) (o : Operand) (kept : Kept) : Type 0 where
  pub rows : HasRows kept o.root
  pub numbers : AreNumbers script o.root
  pub sound : AreSoundOps (kinds_at script (root_line o.root)) o.chain o.kinds

-- the line is a cache of that line, whose rows the operand gives
pub record IsCacheOf (script : Script) (n of : ℕ) (o : Operand) : Type 0 where
  pub name : List ℕ
  pub is : statement_at script n ≡ Some (line name (cache_form of))
  pub operand : IsOperand script of o

-- what is told ------------------------------------------------------------------------------------------------------

-- the inputs, where a shelf that is fixed tells them
abbrev pub told_in : Option Holdings → Bool → Option Inputs
told_in holds fixed = if fixed then holds else None

-- whether the disk behind these hands tells
abbrev pub tells_of : List HandValue → Bool
tells_of [] = false
tells_of (a ∷ hands) = a.pool.opening.tells

-- the inputs that are told, where the disk tells too
abbrev pub told_by : Option Inputs → List HandValue → Option Inputs
told_by told hands = if tells_of hands then told else None

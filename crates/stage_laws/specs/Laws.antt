-- How a run goes on stage by stage, and how it ends.
use Rattle.std.specs.Prelude.{◌≡◌, ℕ, ◌<◌, ◌≤◌, Bool, List, [], ◌∷◌, length, Option, None, Some, IsTrue}
use Rattle.std.specs.List.{flat_map}
use Rattle.row_defs.specs.Limits.{most_rows}
use Rattle.row_defs.specs.Rows.{Row}
use Rattle.row_defs.specs.LocalOps.{rows_through}
use Rattle.row_defs.specs.Inputs.{Inputs, InputFailure, failure_of_input}
use Rattle.row_defs.specs.Operands.{Operand}
use Rattle.script_defs.specs.Scripts.{Form, lines_form, cache_form, line, Action, Script, statement_at}
use Rattle.script_defs.specs.Reading.{nothing_known}
use Rattle.script_defs.specs.Sound.{IsSound}
use Rattle.script_defs.specs.Lists.{Lists, IsLine, failure_of_form}
use Rattle.script_defs.specs.Work.{Item, do_line, do_action}
use Rattle.script_defs.specs.Plans.{Stage, IsStage, IsOperand, IsPlan, item_of}
use Rattle.script_defs.specs.Needs.{inputs_needed, read_by_stages}
use Rattle.script_defs.specs.Runs.{text_of_rows}
use Rattle.script_defs.specs.Ends.{Ending, whole, stopped, too_many, cut_off}
use Rattle.dia_edge.specs.Sinks.{TookAll, TookPrefix}
use Rattle.run_laws.specs.Order.{InWork}
use Rattle.stage_laws.specs.Standing.{Kept, KeepsOneMore, KeepsBut, AreKept, AreListed, HasRows, StillHolds, EndsWith, Ended, GoesOn, Stops, KeepsOn, CanDo, Stands, IsActing, IsCaching}

-- The laws hold for whatever is known of the rows of caches, which is W before a step and W' behind it: so the proofs say them.
-- A clause can range over tests alone.

abbrev pub AtEach : ((List Row → Type 0) → Type 0) → Type 0
AtEach Law = (test : List Row → Bool) → Law (λ (rows : List Row). IsTrue (test rows))

abbrev pub AtEachTwo : ((List Row → Type 0) → (List Row → Type 0) → Type 0) → Type 0
AtEachTwo Law = (test test_now : List Row → Bool) → Law (λ (rows : List Row). IsTrue (test rows)) (λ (rows : List Row). IsTrue (test_now rows))

-- stages --------------------------------------------------------------------------------------------------------------

-- a run of an accepted script stands before its plan, while nothing is kept
abbrev pub PlanBegins : (List Row → Type 0) → Type 0
PlanBegins W =
    (script : Script) (told : Option Inputs) (plan : List Stage) (begun : Option (List ℕ)) (kept : Kept)
    → IsSound nothing_known 1 script → IsPlan script plan → ((n : ℕ) → kept n ≡ None) → Stands W script told begun plan kept begun

-- the next stage can be done
abbrev pub StageCanBeDone : (List Row → Type 0) → Type 0
StageCanBeDone W =
    (script : Script) (told : Option Inputs) (begun : Option (List ℕ)) (stage : Stage) (stages : List Stage) (kept : Kept) (taken : Option (List ℕ))
    → IsSound nothing_known 1 script → IsStage script stage → Stands W script told begun (stage ∷ stages) kept taken → CanDo script stage kept

-- where it goes on and keeps what it has to, the run stands before the others
abbrev pub StageGoesOn : (List Row → Type 0) → (List Row → Type 0) → Type 0
StageGoesOn W W' =
    (script : Script) (told told_now : Option Inputs) (begun : Option (List ℕ)) (stage : Stage) (stages : List Stage) (kept kept_now : Kept) (taken taken_now : Option (List ℕ))
    → ((inputs : Inputs) → told ≡ Some inputs → told_now ≡ Some inputs) → Stands W script told begun (stage ∷ stages) kept taken
    → GoesOn W W' script told_now (item_of stage.number stage.statement) kept taken kept_now taken_now
    → KeepsOn script (item_of stage.number stage.statement) stage.operands kept kept_now
    → Stands W' script told begun stages kept_now taken_now

-- where it stops, the run ends so
abbrev pub StageStops : (List Row → Type 0) → Type 0
StageStops W =
    (script : Script) (told told_now : Option Inputs) (begun : Option (List ℕ)) (stage : Stage) (stages : List Stage) (kept : Kept) (taken : Option (List ℕ))
    (ending : Ending) (taken_now : Option (List ℕ))
    → ((inputs : Inputs) → told ≡ Some inputs → told_now ≡ Some inputs) → Stands W script told begun (stage ∷ stages) kept taken
    → Stops W script told_now (item_of stage.number stage.statement) kept taken ending taken_now
    → (inputs : Inputs) → told ≡ Some inputs → Ended begun (EndsWith W script inputs ending) taken_now

-- where no stage is left, all of the work is done
abbrev pub PlanEnds : (List Row → Type 0) → Type 0
PlanEnds W =
    (script : Script) (told : Option Inputs) (begun : Option (List ℕ)) (kept : Kept) (taken : Option (List ℕ))
    → Stands W script told begun [] kept taken → (inputs : Inputs) → told ≡ Some inputs → Ended begun (EndsWith W script inputs whole) taken

-- before the first stage nothing is done
abbrev pub NothingIsDone : (List Row → Type 0) → Type 0
NothingIsDone W =
    (script : Script) (begun : Option (List ℕ)) → IsSound nothing_known 1 script → (inputs : Inputs) → Ended begun (EndsWith W script inputs cut_off) begun

-- what the stages of a plan read are the inputs that the script needs
abbrev pub PlanReadsWhatIsNeeded : Type 0
PlanReadsWhatIsNeeded = (script : Script) (plan : List Stage) → IsPlan script plan → read_by_stages plan ≡ inputs_needed script

-- items ---------------------------------------------------------------------------------------------------------------

-- a line goes on where what is kept for it is a result of its definition, and where a cache's rows are such that W' holds of them
abbrev pub LineIsKept : (List Row → Type 0) → (List Row → Type 0) → Type 0
LineIsKept W W' =
    (script : Script) (told : Option Inputs) (n : ℕ) (name : List ℕ) (form : Form) (rows : List Row) (kept now : Kept) (taken : Option (List ℕ))
    → StillHolds W W' → statement_at script n ≡ Some (line name form) → ((of : ℕ) → form ≡ cache_form of → W' rows)
    → ((inputs : Inputs) (lists : Lists) → told ≡ Some inputs → AreListed lists kept → IsLine inputs lists form rows × (failure_of_form inputs lists form ≡ None))
    → KeepsOneMore kept n rows now → GoesOn W W' script told (do_line n) kept taken now taken

-- a cache goes on where the rows that arrive are kept and W' holds of them, and may let rows go
abbrev pub CacheIsKept : (List Row → Type 0) → (List Row → Type 0) → Type 0
CacheIsKept W W' =
    (script : Script) (told : Option Inputs) (n of : ℕ) (kept less now : Kept) (o : Operand) (rows : List Row) (taken : Option (List ℕ))
    → StillHolds W W' → W' (flat_map (rows_through o.chain) rows) → IsCaching script n of kept o rows
    → length (flat_map (rows_through o.chain) rows) ≤ most_rows → KeepsBut o.root o.last kept less
    → KeepsOneMore less n (flat_map (rows_through o.chain) rows) now → GoesOn W W' script told (do_line n) kept taken now taken

-- what a cache keeps, where it lets rows go at their last use alone
abbrev pub CacheKeeps : Type 0
CacheKeeps =
    (script : Script) (n : ℕ) (rows : List Row) (kept less now : Kept) (o : Operand)
    → KeepsBut o.root o.last kept less → KeepsOneMore less n rows now → KeepsOn script (do_line n) (o ∷ []) kept now

-- it stops where too many rows arrive
abbrev pub CacheHasTooMany : (List Row → Type 0) → Type 0
CacheHasTooMany W =
    (script : Script) (told : Option Inputs) (n of : ℕ) (kept : Kept) (o : Operand) (rows : List Row) (taken : Option (List ℕ))
    → IsCaching script n of kept o rows → most_rows < length (flat_map (rows_through o.chain) rows)
    → Stops W script told (do_line n) kept taken (too_many n) taken

-- the rows at the root of its operand are there
abbrev pub CacheHasRows : Type 0
CacheHasRows =
    (script : Script) (done left : List Item) (kept : Kept) (n of : ℕ) (name : List ℕ) (o : Operand) (later : List Operand)
    → InWork script done (do_line n ∷ left) → AreKept script done (o ∷ later) kept → statement_at script n ≡ Some (line name (cache_form of))
    → IsOperand script of o → HasRows kept o.root

-- an action goes on where its text was taken, and may let rows go
abbrev pub ActionIsDone : (List Row → Type 0) → (List Row → Type 0) → Type 0
ActionIsDone W W' =
    (script : Script) (told : Option Inputs) (n : ℕ) (action : Action) (kept kept_now : Kept) (o : Operand) (rows : List Row) (taken now : Option (List ℕ))
    → StillHolds W W' → IsActing script n action kept o rows → KeepsBut o.root o.last kept kept_now → length (flat_map (rows_through o.chain) rows) ≤ most_rows
    → TookAll taken (text_of_rows action (flat_map (rows_through o.chain) rows)) now → GoesOn W W' script told (do_action n) kept taken kept_now now

-- what an action keeps, where it lets rows go at their last use alone
abbrev pub ActionKeeps : Type 0
ActionKeeps = (script : Script) (n : ℕ) (kept now : Kept) (o : Operand) → KeepsBut o.root o.last kept now → KeepsOn script (do_action n) (o ∷ []) kept now

-- and what a line keeps that is kept itself
abbrev pub LineKeeps : Type 0
LineKeeps = (script : Script) (n : ℕ) (rows : List Row) (kept now : Kept) → KeepsOneMore kept n rows now → KeepsOn script (do_line n) [] kept now

-- it is cut off where a prefix of that was
abbrev pub ActionIsCutOff : (List Row → Type 0) → Type 0
ActionIsCutOff W =
    (script : Script) (told : Option Inputs) (n : ℕ) (action : Action) (kept : Kept) (o : Operand) (rows : List Row) (taken now : Option (List ℕ))
    → IsActing script n action kept o rows → length (flat_map (rows_through o.chain) rows) ≤ most_rows
    → TookPrefix taken (text_of_rows action (flat_map (rows_through o.chain) rows)) now → Stops W script told (do_action n) kept taken cut_off now

-- and stops where too many rows arrive
abbrev pub ActionHasTooMany : (List Row → Type 0) → Type 0
ActionHasTooMany W =
    (script : Script) (told : Option Inputs) (n : ℕ) (action : Action) (kept : Kept) (o : Operand) (rows : List Row) (taken : Option (List ℕ))
    → IsActing script n action kept o rows → most_rows < length (flat_map (rows_through o.chain) rows)
    → Stops W script told (do_action n) kept taken (too_many n) taken

-- the line of an input stops for the input's cause
abbrev pub InputFails : (List Row → Type 0) → Type 0
InputFails W =
    (script : Script) (told : Option Inputs) (n : ℕ) (name input : List ℕ) (cause : InputFailure) (kept : Kept) (taken : Option (List ℕ))
    → statement_at script n ≡ Some (line name (lines_form input)) → ((inputs : Inputs) → told ≡ Some inputs → failure_of_input (inputs input) ≡ Some cause)
    → Stops W script told (do_line n) kept taken (stopped input cause) taken

-- any item is cut off where nothing of it was done
abbrev pub ItemIsCutOff : (List Row → Type 0) → Type 0
ItemIsCutOff W =
    (script : Script) (told : Option Inputs) (item : Item) (kept : Kept) (taken : Option (List ℕ)) → Stops W script told item kept taken cut_off taken

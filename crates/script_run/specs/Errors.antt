-- How the errors of the layers below stop a run, and the counts that they tell.
use Rattle.std.specs.Prelude.{ℕ, List, All, Result, Ok, Err}
use Rattle.row_defs.specs.Inputs.{missing, line_too_long, input_too_long}
use Rattle.script_defs.specs.Ends.{Ending, whole, stopped, too_many, cut_off}
use Rattle.dia_edge.specs.Counts.{TellsCount}
use Rattle.block_pool.specs.Handles.{HandValue}
use Rattle.block_pool.specs.declared.refusals.OpenErr.{OpenErr}
use Rattle.block_pool.specs.declared.refusals.OpenErr.TheVariants as opens
use Rattle.input_file.specs.declared.refusals.ReadFileErr.{ReadFileErr}
use Rattle.input_file.specs.declared.refusals.ReadFileErr.TheVariants as inputs
use Rattle.feed_actions.specs.declared.action.ActErr.{ActErr}
use Rattle.feed_actions.specs.declared.action.ActErr.TheVariants as acts
use Rattle.place_node.specs.declared.node_err.NodeErr.{NodeErr}
use Rattle.place_node.specs.declared.node_err.NodeErr.TheVariants as nodes
use Rattle.scatter.specs.Told.{Tells, SomeHit}
use Rattle.script_run.specs.declared.run_err.RunErr.{RunErr}
use Rattle.script_run.specs.declared.run_err.RunErr.TheVariants.{Missing, LineTooLong, InputTooLong, PoolTooSmall, TooManyRows, Read, Write, Disk, Damaged, NoMemory}

-- the line of this input wasn't read
abbrev pub input_error : List ℕ → ReadFileErr → RunErr
input_error name inputs.Missing = Missing name
input_error name (inputs.LineTooLong line) = LineTooLong name line
input_error name inputs.InputTooLong = InputTooLong name
input_error name (inputs.Read count) = Read count
input_error name (inputs.Disk count) = Disk count
input_error name inputs.NoMemory = NoMemory

-- the action on this line wasn't done
abbrev pub act_error : ℕ → ActErr → RunErr
act_error line acts.TooManyRows = TooManyRows line
act_error line (acts.Write count) = Write count
act_error line (acts.Disk count) = Disk count
act_error line acts.Damaged = Damaged
act_error line acts.NoMemory = NoMemory

-- the rows of this line weren't placed in files
abbrev pub place_error : ℕ → NodeErr → RunErr
place_error line nodes.TooManyRows = TooManyRows line
place_error line (nodes.Disk count) = Disk count
place_error line nodes.Damaged = Damaged
place_error line nodes.NoMemory = NoMemory

-- the pool wasn't opened
abbrev pub open_error : OpenErr → RunErr
open_error (opens.TooSmall frames need) = PoolTooSmall frames need
open_error opens.NoMemory = NoMemory

-- how a run that was stopped by an error ends
abbrev pub ending_of : RunErr → Ending
ending_of (Missing name) = stopped name missing
ending_of (LineTooLong name line) = stopped name (line_too_long line)
ending_of (InputTooLong name) = stopped name input_too_long
ending_of (PoolTooSmall frames need) = cut_off
ending_of (TooManyRows line) = too_many line
ending_of (Read count) = cut_off
ending_of (Write count) = cut_off
ending_of (Disk count) = cut_off
ending_of Damaged = cut_off
ending_of NoMemory = cut_off

-- how a run that answers so ends
abbrev pub ending_in : {T : Type 0} → Result T RunErr → Ending
ending_in (Ok done) = whole
ending_in (Err e) = ending_of e

-- what an error tells within the pool: the counts of the shelf's and of the sink's faults before and now, and the hands
abbrev pub TellsStop : RunErr → ℕ → ℕ → ℕ → ℕ → List HandValue → List HandValue → Type 0
TellsStop (Read count) before now out_before out_now hands later = TellsCount count before now
TellsStop (Write count) before now out_before out_now hands later = TellsCount count out_before out_now
TellsStop (Disk count) before now out_before out_now hands later = SomeHit hands later count
TellsStop Damaged before now out_before out_now hands later = All Tells hands → ⊥
TellsStop (PoolTooSmall frames need) before now out_before out_now hands later = ⊥
TellsStop _ before now out_before out_now hands later = Unit {0}

-- Why an action wasn't done, and what the sink took.
use Rattle.std.specs.Prelude.{◌≡◌, ◌<◌, ◌≤◌, ◌⊎◌, ℕ, List, All, length}
use Rattle.row_defs.specs.Limits.{most_rows}
use Rattle.row_defs.specs.Rows.{Row}
use Rattle.row_defs.specs.LocalOps.{LocalOp}
use Rattle.row_defs.specs.Operands.{Root}
use Rattle.dia_edge.specs.Counts.{TellsCount}
use Rattle.dia_edge.specs.Sinks.{TookPrefix}
use Rattle.dia_edge.specs.declared.sink.Sink.{Ghosts}
use Rattle.block_pool.specs.Handles.{HandValue}
use Rattle.dia_edge.specs.declared.refusals.Failed.{Failed}
use Rattle.scatter.specs.declared.feed_err.FeedErr.{FeedErr}
use Rattle.scatter.specs.declared.feed_err.FeedErr.TheVariants as feeds
use Rattle.scatter.specs.Lines.{Lines}
use Rattle.feed_actions.specs.declared.action.ActErr.{ActErr}
use Rattle.feed_actions.specs.declared.action.ActErr.TheVariants.{Disk, Damaged, NoMemory, TooManyRows, Write}
use Rattle.scatter.specs.Told.{Tells, AreTold, SomeHit, arriving}

-- where the rows are known, no more arrive than may, and the sink took a prefix of the text
abbrev pub IsBegun : {S : Type 0} → Ghosts S → Lines → Root → List LocalOp → (List Row → List ℕ) → List HandValue → S → S → Type 0
IsBegun g lines root ops text hands old new =
    AreTold root hands → (length (arriving lines root ops) ≤ most_rows) × TookPrefix (g.taken old) (text (arriving lines root ops)) (g.taken new)

-- the text was cut off: nothing was written, or some prefix of it
abbrev pub IsCutOff : {S : Type 0} → Ghosts S → Lines → Root → List LocalOp → (List Row → List ℕ) → List HandValue → S → S → Type 0
IsCutOff g lines root ops text hands old new = (new ≡ old) ⊎ IsBegun g lines root ops text hands old new

-- why an action wasn't done that writes this text of the rows that arrive, with the hands and the sink before and after
abbrev pub ActStopped : {S : Type 0} → Ghosts S → Lines → Root → List LocalOp → (List Row → List ℕ) → List HandValue → List HandValue → S → S → ActErr → Type 0
ActStopped g lines root ops text hands now old new TooManyRows = (AreTold root hands → most_rows < length (arriving lines root ops)) × (new ≡ old)
ActStopped g lines root ops text hands now old new (Disk count) = SomeHit hands now count × IsCutOff g lines root ops text hands old new
ActStopped g lines root ops text hands now old new Damaged = (All Tells hands → ⊥) × IsCutOff g lines root ops text hands old new
ActStopped g lines root ops text hands now old new NoMemory = IsCutOff g lines root ops text hands old new
ActStopped g lines root ops text hands now old new (Write count) =
    IsBegun g lines root ops text hands old new × TellsCount count (g.faults old) (g.faults new)

-- what a refusal to print is for an action, where the sink's faults are so many
abbrev pub print_refusal : ℕ → FeedErr Failed → ActErr
print_refusal faults (feeds.Sink e) = Write faults
print_refusal faults (feeds.Disk count) = Disk count
print_refusal faults feeds.Damaged = Damaged
print_refusal faults feeds.NoMemory = NoMemory

-- Why an action wasn't done, and what the sink took.
use Rattle.std.specs.Prelude.{◌≡◌, ◌<◌, ◌≤◌, ℕ, List, All, length, Result, OnOk, IfErr}
use Rattle.row_defs.specs.Limits.{most_rows}
use Rattle.row_defs.specs.Rows.{Row}
use Rattle.row_defs.specs.LocalOps.{LocalOp}
use Rattle.row_defs.specs.Operands.{Root}
use Rattle.row_defs.specs.Printed.{number_line, column_sum}
use Rattle.dia_edge.specs.Counts.{TellsCount}
use Rattle.dia_edge.specs.Sinks.{TookAll, TookPrefix}
use Rattle.dia_edge.specs.declared.sink.Sink.{Ghosts}
use Rattle.block_pool.specs.Handles.{HandValue}
use Rattle.scatter.specs.Lines.{Lines}
use Rattle.scatter.specs.declared.feed_err.FeedErr.{FeedErr}
use Rattle.scatter.specs.declared.feed_err.FeedErr.TheVariants as feeds
use Rattle.scatter.specs.Told.{Tells, AreTold, SomeHit, arriving}
use Rattle.feed_actions.specs.declared.counter.TooManyRows as counts
use Rattle.feed_actions.specs.declared.action.ActErr.{ActErr}
use Rattle.feed_actions.specs.declared.action.ActErr.TheVariants.{Disk, Damaged, NoMemory, TooManyRows, Write}

-- what a phase's fault is for an action
abbrev pub act_refusal : FeedErr counts.TooManyRows → ActErr
act_refusal (feeds.Sink e) = TooManyRows
act_refusal (feeds.Disk count) = Disk count
act_refusal feeds.Damaged = Damaged
act_refusal feeds.NoMemory = NoMemory

-- the texts of `size` and `sum`
abbrev pub size_text : List Row → List ℕ
size_text rows = number_line (length rows)

abbrev pub sum_text : ℕ → List Row → List ℕ
sum_text column rows = number_line (column_sum column rows)

-- a write failed after some prefix of the text, and tells the sink's count, which rose
abbrev pub IsCut : {S : Type 0} → Ghosts S → S → S → List ℕ → ActErr → Type 0
IsCut g old new text (Write count) = TookPrefix (g.taken old) text (g.taken new) × TellsCount count (g.faults old) (g.faults new)
IsCut g old new text _ = ⊥

-- what a call says that writes this text: it was taken whole, or cut off
pub record Writes {S T : Type 0} (g : Ghosts S) (old new : S) (text : List ℕ) (result : Result T ActErr) : Type 0 where
  pub ok : OnOk result (TookAll (g.taken old) text (g.taken new))
  pub cut : IfErr result (IsCut g old new text)
  pub counts : g.faults old ≤ g.faults new

-- why an action wasn't done whose text rests on the rows that arrive, with these hands and this sink before and after
abbrev pub ActRefused : {S : Type 0} → Ghosts S → Lines → Root → List LocalOp → (List Row → List ℕ) → List HandValue → List HandValue → S → S → ActErr → Type 0
ActRefused g lines root ops text hands now old new (Disk count) = SomeHit hands now count × (new ≡ old)
ActRefused g lines root ops text hands now old new Damaged = (All Tells hands → ⊥) × (new ≡ old)
ActRefused g lines root ops text hands now old new NoMemory = new ≡ old
ActRefused g lines root ops text hands now old new TooManyRows = (AreTold root hands → most_rows < length (arriving lines root ops)) × (new ≡ old)
ActRefused g lines root ops text hands now old new (Write count) =
    (AreTold root hands → (length (arriving lines root ops) ≤ most_rows) × TookPrefix (g.taken old) (text (arriving lines root ops)) (g.taken new))
    × TellsCount count (g.faults old) (g.faults new)

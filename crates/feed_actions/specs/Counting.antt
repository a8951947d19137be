-- What a count of all workers comes to.
use Rattle.std.specs.Prelude.{◌≡◌, ◌<◌, ℕ, false, List, All, ⊤, length}
use Rattle.row_defs.specs.Limits.{longest_text, most_rows}
use Rattle.row_defs.specs.LocalOps.{LocalOp}
use Rattle.row_defs.specs.Operands.{Root}
use Rattle.block_pool.specs.Handles.{HandValue}
use Rattle.row_growth.specs.Growth.{extent}
use Rattle.row_growth.specs.declared.growing.Extent.{Extent}
use Rattle.row_growth.specs.declared.growing.Extent.TheVariants.{Exactly}
use Rattle.scatter.specs.Lines.{Lines, root_rows}
use Rattle.scatter.specs.declared.feed_err.FeedErr.{FeedErr}
use Rattle.scatter.specs.declared.feed_err.FeedErr.TheVariants.{Sink, Disk, Damaged, NoMemory}
use Rattle.feed_actions.specs.declared.counter.Counter.{Counter}
use Rattle.feed_actions.specs.declared.counter.TooManyRows.{TooManyRows}
use Rattle.scatter.specs.Told.{Tells, AreTold, SomeHit, arriving}

-- a counter that took no row yet
abbrev pub IsFreshCounter : {D : Type 0} → Counter D → Type 0
IsFreshCounter c = (c.rows ≡ 0) × (c.shut ≡ false)

abbrev pub rows_counted : {D : Type 0} → Counter D → ℕ
rows_counted c = c.rows

-- why the rows of a root aren't counted or added up, with these hands before and after
abbrev pub CountRefused : Lines → Root → List LocalOp → List HandValue → List HandValue → FeedErr TooManyRows → Type 0
CountRefused lines root ops hands now (Sink e) = AreTold root hands → most_rows < length (arriving lines root ops)
CountRefused lines root ops hands now (Disk count) = SomeHit hands now count
CountRefused lines root ops hands now Damaged = All Tells hands → ⊥
CountRefused lines root ops hands now NoMemory = ⊤

-- how many rows arrive, as far as that is known without reading one
abbrev pub known_extent : Lines → Root → List LocalOp → Extent
known_extent lines root ops = extent (length (root_rows lines root)) longest_text ops

-- more rows are known to arrive than may
pub record IsTooLong (lines : Lines) (root : Root) (ops : List LocalOp) : Type 0 where
  pub rows : ℕ
  pub exact : known_extent lines root ops ≡ Exactly rows
  pub many : most_rows < rows

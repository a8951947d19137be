-- What a node that places rows comes to.
use Rattle.std.specs.Prelude.{◌<◌, List, All, ⊤, length}
use Rattle.row_defs.specs.Limits.{most_rows}
use Rattle.row_defs.specs.LocalOps.{LocalOp}
use Rattle.row_defs.specs.Operands.{Root}
use Rattle.block_pool.specs.Handles.{HandValue}
use Rattle.dia_file.specs.declared.refusals.PushErr.{PushErr}
use Rattle.dia_file.specs.declared.refusals.PushErr.TheVariants as push
use Rattle.scatter.specs.Lines.{Lines}
use Rattle.scatter.specs.declared.feed_err.FeedErr.{FeedErr}
use Rattle.scatter.specs.declared.feed_err.FeedErr.TheVariants as feeds
use Rattle.scatter.specs.Told.{Tells, AreTold, SomeHit, arriving}
use Rattle.sink_files.specs.declared.keep_err.KeepErr.{KeepErr}
use Rattle.sink_files.specs.declared.keep_err.KeepErr.TheVariants as keeps
use Rattle.place_node.specs.declared.node_err.NodeErr.{NodeErr}
use Rattle.place_node.specs.declared.node_err.NodeErr.TheVariants.{Disk, Damaged, NoMemory, TooManyRows}

-- what a phase's fault is for a node
abbrev pub node_refusal : FeedErr PushErr → NodeErr
node_refusal (feeds.Sink (push.Disk count)) = Disk count
node_refusal (feeds.Sink push.NoMemory) = NoMemory
node_refusal (feeds.Sink (push.TooManyRows limit)) = TooManyRows
node_refusal (feeds.Disk count) = Disk count
node_refusal feeds.Damaged = Damaged
node_refusal feeds.NoMemory = NoMemory

-- what it is for a node that sinks have no files
abbrev pub keep_refusal : KeepErr → NodeErr
keep_refusal keeps.NoMemory = NoMemory
keep_refusal keeps.TooManyRows = TooManyRows

-- why a node has no files, with these hands before and after
abbrev pub PlaceRefused : Lines → Root → List LocalOp → List HandValue → List HandValue → NodeErr → Type 0
PlaceRefused lines root ops hands now (Disk count) = SomeHit hands now count
PlaceRefused lines root ops hands now Damaged = All Tells hands → ⊥
PlaceRefused lines root ops hands now NoMemory = ⊤
PlaceRefused lines root ops hands now TooManyRows = AreTold root hands → most_rows < length (arriving lines root ops)

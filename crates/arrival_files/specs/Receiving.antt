-- What workers receive, in files.
use Rattle.std.specs.Prelude.{◌≡◌, ◌<◌, List, All, ⊤, length}
use Rattle.std.specs.List.{AllZip, flat_map}
use Rattle.row_defs.specs.declared.kind.Kind.{Kind}
use Rattle.row_defs.specs.Limits.{most_rows}
use Rattle.row_defs.specs.Rows.{Row}
use Rattle.block_pool.specs.Handles.{HandValue}
use Rattle.dia_file.specs.Files.{FileValue}
use Rattle.dia_file.specs.declared.refusals.PushErr.{PushErr}
use Rattle.dia_file.specs.declared.refusals.PushErr.TheVariants as push
use Rattle.multiplexer.specs.declared.inbox.Inbox.{Inbox}
use Rattle.scatter.specs.declared.feed_err.FeedErr.{FeedErr}
use Rattle.scatter.specs.declared.feed_err.FeedErr.TheVariants as feeds
use Rattle.scatter.specs.Told.{Tells, SomeHit}
use Rattle.arrivals.specs.Boxes.{Holds, joined}
use Rattle.sink_files.specs.declared.keep_err.KeepErr.{KeepErr}
use Rattle.sink_files.specs.declared.keep_err.KeepErr.TheVariants as keeps
use Rattle.arrival_files.specs.declared.receive_err.ReceiveErr.{ReceiveErr}
use Rattle.arrival_files.specs.declared.receive_err.ReceiveErr.TheVariants.{Disk, Damaged, NoMemory, TooManyRows}

-- Where the hand's disk tells, and the box holds lists of rows, the file has these rows, by rank of their senders.
abbrev pub HasRowsOf : List Kind → HandValue → Inbox → FileValue → Type 0
HasRowsOf kinds a x f = Tells a → (lists : List (List Row)) → Holds kinds x.packets.items lists → f.rows ≡ joined lists

-- the boxes hold these lists, by receiver and then by sender
abbrev pub HoldAll : List Kind → List Inbox → List (List (List Row)) → Type 0
HoldAll kinds boxes all = AllZip (λ (x : Inbox) (lists : List (List Row)). Holds kinds x.packets.items lists) boxes all

-- all rows that are received
abbrev pub rows_received : List (List (List Row)) → List Row
rows_received all = flat_map joined all

-- why what is received in these boxes isn't in files, with these hands before and after
abbrev pub ReceiveRefused : List Kind → List Inbox → List HandValue → List HandValue → ReceiveErr → Type 0
ReceiveRefused kinds boxes hands now (Disk count) = SomeHit hands now count
ReceiveRefused kinds boxes hands now Damaged = All Tells hands → (all : List (List (List Row))) → HoldAll kinds boxes all → ⊥
ReceiveRefused kinds boxes hands now NoMemory = ⊤
ReceiveRefused kinds boxes hands now TooManyRows = All Tells hands → (all : List (List (List Row))) → HoldAll kinds boxes all → most_rows < length (rows_received all)

-- what a phase's fault is
abbrev pub fault_of_phase : FeedErr PushErr → ReceiveErr
fault_of_phase (feeds.Sink (push.Disk count)) = Disk count
fault_of_phase (feeds.Sink push.NoMemory) = NoMemory
fault_of_phase (feeds.Sink (push.TooManyRows limit)) = TooManyRows
fault_of_phase (feeds.Disk count) = Disk count
fault_of_phase feeds.Damaged = Damaged
fault_of_phase feeds.NoMemory = NoMemory

-- what it is that sinks have no files
abbrev pub fault_of_keeping : KeepErr → ReceiveErr
fault_of_keeping keeps.NoMemory = NoMemory
fault_of_keeping keeps.TooManyRows = TooManyRows

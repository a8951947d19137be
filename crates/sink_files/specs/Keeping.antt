-- Why sinks have no files.
use Rattle.std.specs.Prelude.{◌<◌, List, ⊤}
use Rattle.std.specs.List.{sum_by}
use Rattle.row_defs.specs.Limits.{most_rows}
use Rattle.file_sink.specs.Sinks.{SinkValue}
use Rattle.sink_files.specs.declared.keep_err.KeepErr.{KeepErr}
use Rattle.sink_files.specs.declared.keep_err.KeepErr.TheVariants.{NoMemory, TooManyRows}
use Rattle.sink_files.specs.Ending.{rows_taken}

-- why the sinks that took these rows have no files
abbrev pub KeepRefused : List SinkValue → KeepErr → Type 0
KeepRefused sinks NoMemory = ⊤
KeepRefused sinks TooManyRows = most_rows < sum_by rows_taken sinks

-- The tables that code goes by.
use Rattle.std.specs.Prelude.{◌≡◌, ℕ, Bool, false, List, slice_index_or}
use Rattle.std.specs.List.{count_by}
use Rattle.row_defs.specs.Operands.{Root, is_stored_at}
use Rattle.script_defs.specs.Scripts.{Script}
use Rattle.script_defs.specs.Work.{has_number}
use Rattle.stage_builder.specs.Lines.{TellsLines}
use Rattle.stage_builder.specs.declared.lines.Lines as liness
use Rattle.stage_builder.specs.declared.readers.Readers as readerss
use Rattle.stage_builder.specs.declared.line_set.LineSet as line_sets

abbrev pub script_in : liness.Lines → Script
script_in lines = lines.script.now

-- the table has the script's lines
abbrev pub AreRead : liness.Lines → Type 0
AreRead lines = TellsLines lines.script.now lines.forms.items

abbrev pub counts_in : readerss.Readers → List ℕ
counts_in readers = readers.counts.items

abbrev pub count_at : List ℕ → ℕ → ℕ
count_at counts n = slice_index_or counts n 0

-- the counts are of these roots
abbrev pub Counts : List ℕ → List Root → Type 0
Counts counts roots = (n : ℕ) → count_at counts n ≡ count_by (is_stored_at n) roots

abbrev pub lines_in : line_sets.LineSet → List Bool
lines_in set = set.there.items

abbrev pub has_line : List Bool → ℕ → Bool
has_line there n = slice_index_or there n false

-- the set has just these lines
abbrev pub IsSetOf : List Bool → List ℕ → Type 0
IsSetOf there numbers = (n : ℕ) → has_line there n ≡ has_number numbers n

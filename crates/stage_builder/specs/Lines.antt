-- What each line of a script is, by its number.
use Rattle.std.specs.Prelude.{◌≡◌, ℕ, List, Option, None, Some, slice_index_or}
use Rattle.std.specs.Option.{option_map}
use Rattle.std.specs.Borrow.{Bor}
use Rattle.script_defs.specs.Scripts.{Form, Statement, line, Script, statement_at}
use Rattle.script_read.specs.declared.statement.Form as forms
use Rattle.script_read.specs.Statements.{form_in}

abbrev pub found_form : Bor forms.Form → Form
found_form f = form_in f.now

-- what a statement says, where it is a line
abbrev pub line_form : Option Statement → Option Form
line_form (Some (line name form)) = Some form
line_form _ = None

-- what a table has at a number
abbrev pub form_at : List (Option (Bor forms.Form)) → ℕ → Option Form
form_at table n = option_map found_form (slice_index_or table n None)

-- the table has the lines of the script, and no others
abbrev pub TellsLines : Script → List (Option (Bor forms.Form)) → Type 0
TellsLines script table = (n : ℕ) → form_at table n ≡ line_form (statement_at script n)

-- Runs of a script, and what they print.
use Rattle.std.specs.Prelude.{◌≡◌, ℕ, ◌≤◌, List, [], length, take, Option, None, Some, Contains, All, IsSome, ◌↔◌}
use Rattle.std.specs.List.{flat_map}
use Rattle.row_defs.specs.Rows.{Row}
use Rattle.row_defs.specs.Inputs.{Inputs}
use Rattle.row_defs.specs.Printed.{row_text, number_line, column_sum}
use Rattle.script_defs.specs.Scripts.{Action, print_action, size_action, sum_action, action_operand, Statement, line, act, Script, statement_at}
use Rattle.script_defs.specs.Lists.{Lists, IsLine, Failure, failure_of_form, failure_of_action, rows_in}
use Rattle.script_defs.specs.Work.{Item, do_line, do_action, work_of}

-- the line's list is a result of its definition
abbrev pub IsRightStatement : Inputs → Lists → ℕ → Option Statement → Type 0
IsRightStatement inputs lists n (Some (line name form)) = (rows : List Row) × (lists n ≡ Some rows) × IsLine inputs lists form rows
IsRightStatement inputs lists n _ = Unit {0}

abbrev pub IsRight : Script → Inputs → Lists → Item → Type 0
IsRight script inputs lists (do_line n) = IsRightStatement inputs lists n (statement_at script n)
IsRight script inputs lists (do_action n) = Unit {0}

abbrev pub failure_of_statement : Inputs → Lists → Option Statement → Option Failure
failure_of_statement inputs lists (Some (line name form)) = failure_of_form inputs lists form
failure_of_statement inputs lists (Some (act action)) = failure_of_action lists action
failure_of_statement inputs lists None = None

-- an item's cause for not being done, if it has one
abbrev pub failure_of : Script → Inputs → Lists → Item → Option Failure
failure_of script inputs lists (do_line n) = failure_of_statement inputs lists (statement_at script n)
failure_of script inputs lists (do_action n) = failure_of_statement inputs lists (statement_at script n)

-- a run of the first n items of the work: the lines among them and no others have a list, each the result of its
-- definition on the lists that it names, and nothing keeps an item from being done
pub record IsRun (script : Script) (inputs : Inputs) (lists : Lists) (n : ℕ) : Type 0 where
  pub within : n ≤ length (work_of script)
  pub listed : (l : ℕ) → IsSome (lists l) ↔ Contains (take n (work_of script)) (do_line l)
  pub right : All (IsRight script inputs lists) (take n (work_of script))
  pub free : All (λ item. failure_of script inputs lists item ≡ None) (take n (work_of script))

-- what an action prints of its line's rows
abbrev pub text_of_rows : Action → List Row → List ℕ
text_of_rows (print_action of) rows = flat_map row_text rows
text_of_rows (size_action of) rows = number_line (length rows)
text_of_rows (sum_action of c) rows = number_line (column_sum c rows)

abbrev pub action_text : Lists → Action → List ℕ
action_text lists action = text_of_rows action (rows_in (lists (action_operand action)))

abbrev pub statement_text : Lists → Option Statement → List ℕ
statement_text lists (Some (act action)) = action_text lists action
statement_text lists _ = []

-- what an item prints
abbrev pub item_text : Script → Lists → Item → List ℕ
item_text script lists (do_line n) = []
item_text script lists (do_action n) = statement_text lists (statement_at script n)

-- what the actions among the first n items print
abbrev pub run_texts : Script → Lists → ℕ → List ℕ
run_texts script lists n = flat_map (item_text script lists) (take n (work_of script))

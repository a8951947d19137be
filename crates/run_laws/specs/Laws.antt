-- Runs, item by item; chains of local lines.
use Rattle.std.specs.Prelude.{◌≡◌, ℕ, ◌==◌, true, List, [], ◌∷◌, ◌++◌, length, drop, None, Some, is_some, if◌then◌else◌}
use Rattle.std.specs.List.{AllByRecursion, flat_map}
use Rattle.row_defs.specs.Rows.{Row}
use Rattle.row_defs.specs.LocalOps.{LocalOp, rows_through}
use Rattle.script_defs.specs.Scripts.{Form, Action, line, act, Script, statement_at}
use Rattle.row_defs.specs.Inputs.{Inputs}
use Rattle.script_defs.specs.Lists.{Lists, IsLine, failure_of_form, failure_of_action}
use Rattle.script_defs.specs.Work.{Item, do_line, do_action, has_number, work_of}
use Rattle.script_defs.specs.Runs.{IsRight, failure_of, IsRun, action_text, item_text, run_texts}
use Rattle.script_defs.specs.Plans.{IsChain}
use Rattle.run_laws.specs.Order.{lines_among, InWork}

-- a run of just these items
pub record IsRunOf (script : Script) (inputs : Inputs) (lists : Lists) (items : List Item) : Type 0 where
  pub listed : (l : ℕ) → is_some (lists l) ≡ has_number (lines_among items) l
  pub right : AllByRecursion (IsRight script inputs lists) items
  pub free : AllByRecursion (λ item. failure_of script inputs lists item ≡ None) items

-- what these items print
abbrev pub texts_among : Script → Lists → List Item → List ℕ
texts_among script lists items = flat_map (item_text script lists) items

-- one line has this list, and the others those that they had
abbrev pub with_list : Lists → ℕ → List Row → Lists
with_list lists n rows m = if m == n then Some rows else lists m

abbrev pub no_lists : Lists
no_lists l = None

-- a line that is done goes on a run, and prints nothing
abbrev pub LineGoesOn : Type 0
LineGoesOn =
    (script : Script) (inputs : Inputs) (lists : Lists) (done left : List Item) (n : ℕ) (name : List ℕ) (form : Form) (rows : List Row)
    → InWork script done (do_line n ∷ left) → IsRunOf script inputs lists done → statement_at script n ≡ Some (line name form)
    → IsLine inputs lists form rows → failure_of_form inputs lists form ≡ None
    → IsRunOf script inputs (with_list lists n rows) (done ++ do_line n ∷ [])
    × (texts_among script (with_list lists n rows) (done ++ do_line n ∷ []) ≡ texts_among script lists done)

-- an action that is done goes on a run, and prints its text
abbrev pub ActionGoesOn : Type 0
ActionGoesOn =
    (script : Script) (inputs : Inputs) (lists : Lists) (done left : List Item) (n : ℕ) (action : Action)
    → InWork script done (do_action n ∷ left) → IsRunOf script inputs lists done → statement_at script n ≡ Some (act action)
    → failure_of_action lists action ≡ None
    → IsRunOf script inputs lists (done ++ do_action n ∷ [])
    × (texts_among script lists (done ++ do_action n ∷ []) ≡ texts_among script lists done ++ action_text lists action)

-- a run of the items done is a run of so many items of the work
abbrev pub RunsAreRuns : Type 0
RunsAreRuns =
    (script : Script) (inputs : Inputs) (lists : Lists) (done left : List Item) → InWork script done left → IsRunOf script inputs lists done
    → IsRun script inputs lists (length done) × (run_texts script lists (length done) ≡ texts_among script lists done)
    × (drop (length done) (work_of script) ≡ left)

-- where local lines lead from a root to n, the root is done where n is, and n's rows are what the local lines make of the root's
abbrev pub ChainsMake : Type 0
ChainsMake =
    (script : Script) (inputs : Inputs) (lists : Lists) (done left : List Item) (root : ℕ) (ops : List LocalOp) (n : ℕ)
    → InWork script done left → IsRunOf script inputs lists done → IsChain script root ops n → has_number (lines_among done) n ≡ true
    → (a : List Row) × (lists root ≡ Some a) × (lists n ≡ Some (flat_map (rows_through ops) a))

-- whatever the run
abbrev pub RootsAreDone : Type 0
RootsAreDone =
    (script : Script) (done left : List Item) (root : ℕ) (ops : List LocalOp) (n : ℕ)
    → InWork script done left → IsChain script root ops n → has_number (lines_among done) n ≡ true → has_number (lines_among done) root ≡ true

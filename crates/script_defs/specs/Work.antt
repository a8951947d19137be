-- The work of a script: which lines and actions are done, and in which order.
use Rattle.std.specs.Prelude.{ℕ, ◌==◌, ◌&&◌, Bool, true, false, not, List, [], ◌∷◌, ◌++◌, map, if◌then◌else◌}
use Rattle.std.specs.List.{list_any}
use Rattle.script_defs.specs.Scripts.{action_operand, Statement, line, act, operands_of, Script}

-- a line or an action that is done, by its number
pub data Item : Type 0 where
  do_line : ℕ → Item
  do_action : ℕ → Item

abbrev pub number_of : Item → ℕ
number_of (do_line n) = n
number_of (do_action n) = n

abbrev pub has_number : List ℕ → ℕ → Bool
has_number numbers n = list_any (λ m. m == n) numbers

-- these numbers, and those that a statement with one of them names: each names earlier lines alone
unfoldable pub closure : Script → List ℕ → List ℕ
closure [] wanted = wanted
closure (s ∷ later) wanted =
    let found = closure later wanted in
    if has_number found s.number then found ++ operands_of s.statement else found

abbrev pub is_line : Statement → Bool
is_line (line name form) = true
is_line (act action) = false

-- the lines among them that aren't done yet, in line order
abbrev pub lines_to_do : Script → List ℕ → List ℕ → List ℕ
lines_to_do [] needed done = []
lines_to_do (s ∷ later) needed done =
    if is_line s.statement && has_number needed s.number && not (has_number done s.number)
    then s.number ∷ lines_to_do later needed done else lines_to_do later needed done

-- for each action in order, the lines that it needs and that aren't done yet, and then the action
unfoldable pub work_from : Script → List ℕ → Script → List Item
work_from script done [] = []
work_from script done (s ∷ later) = elim s.statement [
  | line name form ↦ work_from script done later
  | act action ↦
      let new = lines_to_do script (closure script (action_operand action ∷ [])) done in
      map do_line new ++ do_action s.number ∷ work_from script (done ++ new) later
]

abbrev pub work_of : Script → List Item
work_of script = work_from script [] script

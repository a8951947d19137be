-- What is needed: the actions, the lines that they name, and the lines that needed lines name.
use Rattle.std.specs.Prelude.{◌≡◌, ℕ, List, [], ◌∷◌, ◌++◌, Some, ◌↔◌}
use Rattle.script_defs.specs.Scripts.{Form, form_operands, Action, action_operand, line, act, Script, statement_at}
use Rattle.script_defs.specs.Reading.{nothing_known}
use Rattle.script_defs.specs.Sound.{IsSound}
use Rattle.script_defs.specs.Work.{Item, do_line, do_action, work_of}

-- it is an element of the list: the list is what stands before it, the element, and what stands after it
abbrev pub IsIn : {X : Type 0} → X → List X → Type 0
IsIn {X} x xs = (before : List X) × (after : List X) × (xs ≡ before ++ x ∷ after)

-- statement a is a line, and b is among the lines that it names
abbrev pub Names : Script → ℕ → ℕ → Type 0
Names script a b = (name : List ℕ) × (form : Form) × (statement_at script a ≡ Some (line name form)) × IsIn b (form_operands form)

-- from a to b over these lines, each naming the next: the path has the lines after a up to b, and none where a is b
abbrev pub Leads : Script → ℕ → List ℕ → ℕ → Type 0
Leads script a [] b = a ≡ b
Leads script a (n ∷ path) b = Names script a n × Leads script n path b

-- an action is needed where it is in the script; a line, where a path leads to it from the line that an action names
abbrev pub IsNeeded : Script → Item → Type 0
IsNeeded script (do_line n) =
    (k : ℕ) × (action : Action) × (path : List ℕ) × (statement_at script k ≡ Some (act action)) × Leads script (action_operand action) path n
IsNeeded script (do_action n) = (action : Action) × (statement_at script n ≡ Some (act action))

-- an item is in the work of an accepted script exactly where it is needed
abbrev pub WorkIsNeeded : Type 0
WorkIsNeeded = (script : Script) → IsSound nothing_known 1 script → (item : Item) → IsIn item (work_of script) ↔ IsNeeded script item

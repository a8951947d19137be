-- The order of the work: each item once, behind the lines that it names, and the actions in script order.
use Rattle.std.specs.Prelude.{◌≡◌, ℕ, List, [], ◌∷◌, ◌++◌, Some, if◌then◌else◌}
use Rattle.script_defs.specs.Scripts.{Form, form_operands, Action, action_operand, line, act, Script, statement_at}
use Rattle.script_defs.specs.Reading.{nothing_known}
use Rattle.script_defs.specs.Sound.{IsSound}
use Rattle.script_defs.specs.Work.{Item, do_line, do_action, is_line, work_of}
use Rattle.work_laws.specs.Needed.{IsIn}

-- the numbers of the actions among items
abbrev pub actions_among : List Item → List ℕ
actions_among [] = []
actions_among (do_line n ∷ items) = actions_among items
actions_among (do_action n ∷ items) = n ∷ actions_among items

-- the numbers of a script's actions, in script order
abbrev pub actions_in : Script → List ℕ
actions_in [] = []
actions_in (s ∷ later) = if is_line s.statement then actions_in later else s.number ∷ actions_in later

-- a line or an action of the script, with each line that it names among these items, which stand before it
abbrev pub IsBehind : Script → List Item → Item → Type 0
IsBehind script before (do_line n) =
    (name : List ℕ) × (form : Form) × (statement_at script n ≡ Some (line name form)) × ((m : ℕ) → IsIn m (form_operands form) → IsIn (do_line m) before)
IsBehind script before (do_action n) =
    (action : Action) × (statement_at script n ≡ Some (act action)) × IsIn (do_line (action_operand action)) before

pub record AreOrdered (script : Script) (items : List Item) : Type 0 where
  -- wherever an item stands, it stands neither before nor after that place
  pub once : (before after : List Item) (item : Item) → items ≡ before ++ item ∷ after → (IsIn item before → ⊥) × (IsIn item after → ⊥)
  -- wherever an item stands, the lines that it names stand before it
  pub behind : (before after : List Item) (item : Item) → items ≡ before ++ item ∷ after → IsBehind script before item
  -- the actions are those of the script, in its order
  pub actions : actions_among items ≡ actions_in script

-- the work of an accepted script is in this order
abbrev pub WorkHasOrder : Type 0
WorkHasOrder = (script : Script) → IsSound nothing_known 1 script → AreOrdered script (work_of script)

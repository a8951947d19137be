-- The order of work: each line once, behind the lines that it names, and each action behind its line.
use Rattle.std.specs.Prelude.{◌≡◌, ℕ, true, false, List, [], ◌∷◌, ◌++◌, Some}
use Rattle.std.specs.List.{AllByRecursion}
use Rattle.script_defs.specs.Scripts.{Form, form_operands, Action, action_operand, line, act, Script, statement_at}
use Rattle.script_defs.specs.Reading.{nothing_known}
use Rattle.script_defs.specs.Sound.{IsSound}
use Rattle.script_defs.specs.Work.{Item, do_line, do_action, has_number, work_of}

-- the lines among items
abbrev pub lines_among : List Item → List ℕ
lines_among [] = []
lines_among (do_line n ∷ items) = n ∷ lines_among items
lines_among (do_action n ∷ items) = lines_among items

-- it is a line, and the lines that it names are done
pub record IsReadyLine (script : Script) (done : List ℕ) (n : ℕ) : Type 0 where
  pub name : List ℕ
  pub form : Form
  pub is : statement_at script n ≡ Some (line name form)
  pub operands : AllByRecursion (λ of. has_number done of ≡ true) (form_operands form)

-- it is an action, and its line is done
pub record IsReadyAction (script : Script) (done : List ℕ) (n : ℕ) : Type 0 where
  pub action : Action
  pub is : statement_at script n ≡ Some (act action)
  pub operand : has_number done (action_operand action) ≡ true

abbrev pub IsReady : Script → List ℕ → Item → Type 0
IsReady script done (do_line n) = IsReadyLine script done n
IsReady script done (do_action n) = IsReadyAction script done n

-- these items can be done one after the other, where those lines are done
abbrev pub AreInOrder : Script → List ℕ → List Item → Type 0
AreInOrder script done [] = Unit {0}
AreInOrder script done (do_line n ∷ items) = IsReadyLine script done n × (has_number done n ≡ false) × AreInOrder script (done ++ n ∷ []) items
AreInOrder script done (do_action n ∷ items) = IsReadyAction script done n × AreInOrder script done items

-- of the work these items are done, and those are left
pub record InWork (script : Script) (done left : List Item) : Type 0 where
  pub parts : work_of script ≡ done ++ left
  pub ready : AllByRecursion (IsReady script (lines_among done)) done
  pub order : AreInOrder script (lines_among done) left

-- the work of an accepted script can be done from the beginning
abbrev pub WorkBegins : Type 0
WorkBegins = (script : Script) → IsSound nothing_known 1 script → InWork script [] (work_of script)

-- and it goes on item by item
abbrev pub WorkGoesOn : Type 0
WorkGoesOn = (script : Script) (done left : List Item) (item : Item) → InWork script done (item ∷ left) → InWork script (done ++ item ∷ []) left

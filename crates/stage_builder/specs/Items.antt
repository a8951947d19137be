-- The items of work that statements with numbers stand for.
use Rattle.std.specs.Prelude.{◌≡◌, ℕ, List, map, Some}
use Rattle.std.specs.Borrow.{Bor}
use Rattle.script_defs.specs.Scripts.{Numbered, Script, statement_at}
use Rattle.script_defs.specs.Work.{Item}
use Rattle.script_defs.specs.Plans.{item_of}
use Rattle.script_read.specs.declared.statement.Numbered as numbereds
use Rattle.script_read.specs.Statements.{statement_in, numbered_in}

abbrev pub item_at : Bor numbereds.Numbered → Item
item_at n = item_of n.now.line (statement_in n.now.statement)

abbrev pub items_at : List (Bor numbereds.Numbered) → List Item
items_at items = map item_at items

abbrev pub lines_at : List (Bor numbereds.Numbered) → List ℕ
lines_at items = map (λ (n : Bor numbereds.Numbered). n.now.line) items

abbrev pub numbered_at : List (Bor numbereds.Numbered) → List Numbered
numbered_at items = map (λ (n : Bor numbereds.Numbered). numbered_in n.now) items

-- the statement stands in the script under its number
abbrev pub StandsIn : Script → Numbered → Type 0
StandsIn script n = statement_at script n.number ≡ Some n.statement

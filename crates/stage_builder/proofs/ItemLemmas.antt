-- Items of the work and their numbers.
use Rattle.std.proofs.Common.{◌≡◌, ℕ, true, List, [], ◌∷◌, ◌++◌, map, refl, sym, ap, ◌∙◌}
use Rattle.std.specs.List.{AllByRecursion}
use Rattle.std.specs.Borrow.{Bor}
use Rattle.std.proofs.lemmas.Bool.{true≢false}
use Rattle.script_defs.specs.Scripts.{Script, Statement, line, act}
use Rattle.script_defs.specs.Work.{Item, do_line, is_line}
use Rattle.script_defs.specs.Plans.{item_of}
use Rattle.script_read.specs.declared.statement.Numbered as numbereds
use Rattle.script_read.specs.Statements.{statement_in}
use Rattle.stage_builder.specs.Items.{item_at, items_at, lines_at, numbered_at, StandsIn}

pub item_is_line : (n : ℕ) (s : Statement) → is_line s ≡ true → item_of n s ≡ do_line n
item_is_line n (line name form) is = refl
item_is_line n (act action) is = absurd (true≢false (sym is))

one_number : (n m : ℕ) (s : Statement) → item_of n s ≡ do_line m → n ≡ m
one_number n m (line name form) is = cc
one_number n m (act action) is = let wrong : ⊥ = cc in absurd wrong

same_parts : (x y : Item) (xs ys : List Item) → x ∷ xs ≡ y ∷ ys → (x ≡ y) × (xs ≡ ys)
same_parts x y xs ys e = (cc, cc)

pub numbers_are : (items : List (Bor numbereds.Numbered)) (xs : List ℕ) → items_at items ≡ map do_line xs → lines_at items ≡ xs
numbers_are [] [] is = refl
numbers_are [] (x ∷ xs) is = let wrong : ⊥ = cc in absurd wrong
numbers_are (n ∷ items) [] is = let wrong : ⊥ = cc in absurd wrong
numbers_are (n ∷ items) (x ∷ xs) is =
    let parts = same_parts (item_at n) (do_line x) (items_at items) (map do_line xs) is in
    ap (λ (k : ℕ). k ∷ lines_at items) (one_number n.now.line x (statement_in n.now.statement) parts.0)
    ∙ ap (λ (ks : List ℕ). x ∷ ks) (numbers_are items xs parts.1)

-- what was added to nothing
pub added_lines : (old new : List (Bor numbereds.Numbered)) (more : List Item) → old ≡ [] → items_at new ≡ items_at old ++ more → items_at new ≡ more
added_lines old new more none is = is ∙ ap (λ (items : List (Bor numbereds.Numbered)). items_at items ++ more) none

-- items that all stand in the script, behind others that do
pub stand_behind : (script : Script) (items more : List (Bor numbereds.Numbered)) → AllByRecursion (StandsIn script) (numbered_at items)
    → AllByRecursion (StandsIn script) (numbered_at more) → AllByRecursion (StandsIn script) (numbered_at (items ++ more))
stand_behind script [] more all after = after
stand_behind script (n ∷ items) more all after = (all.0, stand_behind script items more all.1 after)

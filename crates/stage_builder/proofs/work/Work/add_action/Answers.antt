use Rattle.std.proofs.Common.{◌≡◌, [], ◌∷◌, ◌++◌, map, sym, ap, ◌∙◌, subst, List, ℕ}
use Rattle.std.specs.List.{AllByRecursion}
use Rattle.std.specs.Borrow.{Bor}
use Rattle.script_defs.specs.Scripts.{action_operand}
use Rattle.script_defs.specs.Work.{do_line, closure, lines_to_do}
use Rattle.script_read.specs.declared.statement.Numbered as numbereds
use Rattle.script_read.specs.Statements.{numbered_in, action_in}
use Rattle.stage_builder.specs.Items.{items_at, lines_at, numbered_at, StandsIn}
use Rattle.stage_builder.specs.Tables.{lines_in, IsSetOf}
use Rattle.stage_builder.proofs.ItemLemmas.{added_lines, numbers_are, stand_behind}
use Rattle.stage_builder.proofs.work.Work.add_action.Goals as goal

pub returns-clause-done : goal.returns-clause-done
returns-clause-done c = λ done set.
    let script = map numbered_in c.args.script.now in
    let wanted = closure script (action_operand (action_in c.args.action.now) ∷ []) in
    let new = lines_to_do script wanted done in
    let items : items_at c.add_lines.new.lines.items ≡ map do_line new = added_lines c.new-new.result.items c.add_lines.new.lines.items (map do_line new) c.new-new.ensures.items
    (c.in_ok-add_lines.ensures.items wanted done (rw (sym c.operand.ensures) c.in_ok-needed.ensures) set) in
    let lines = ap lines_at c.as_slice.ensures.value ∙ numbers_are c.add_lines.new.lines.items new items in
    let Set : List ℕ → Type 0 = λ ns. IsSetOf (lines_in c.add_all.new.lines) (done ++ ns) in
    subst Set lines (c.in_ok-add_all.ensures done set)

pub returns-clause-stand : goal.returns-clause-stand
returns-clause-stand c = λ whole here all.
    let script = map numbered_in c.args.script.now in
    let Stand : List (Bor numbereds.Numbered) → Type 0 = λ items. AllByRecursion (StandsIn script) (numbered_at items) in
    let old = c.args.self.now.items.items in
    let lines = c.add_lines.new.lines.items in
    let new = c.in_ok-extend_from_slice.ensures.items
    ∙ ap (λ (items : List (Bor numbereds.Numbered)). old ++ items) (c.as_slice-2.ensures.value ∙ c.in_ok-push.ensures.items) in
    let stand = c.in_ok-add_lines.ensures.stand script whole (subst Stand (sym c.new-new.ensures.items) tt) in
    subst Stand (sym new) (stand_behind script old (lines ++ c.args.statement ∷ []) all (stand_behind script lines (c.args.statement ∷ []) stand (here, tt)))

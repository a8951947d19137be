use Rattle.std.proofs.Common.{ℕ, List, ◌++◌, OnOk, sym, subst}
use Rattle.std.specs.Borrow.{Bor}
use Rattle.script_read.specs.declared.statement.Numbered as numbereds
use Rattle.stage_builder.specs.Tables.{lines_in, IsSetOf}
use Rattle.stage_builder.specs.Items.{lines_at}
use Rattle.stage_builder.proofs.SetLemmas.{set_more}
use Rattle.stage_builder.proofs.work.+add_all.Goals as goal

pub returns-in_ok-add-in-Some : goal.returns-in_ok-add-in-Some
returns-in_ok-add-in-Some t c =
    let Adds : List (Bor numbereds.Numbered) → Type 0 = λ items.
    OnOk c.add_all.result ((numbers : List ℕ) → IsSetOf (lines_in c.args.lines.now) numbers → IsSetOf (lines_in c.add_all.new.lines) (numbers ++ lines_at items)) in
    subst Adds (sym c.in-Some.ensures.cases.0)
    (set_more c.add_all.result (lines_in c.args.lines.now) (lines_in c.add.new.self) (lines_in c.add_all.new.lines) c.in-Some.item.now.now.line (lines_at c.in-Some.rest.now)
    c.in_ok-add-in-Some.ensures c.add_all.ensures)

use Rattle.std.proofs.Common.{List, map, sym, subst}
use Rattle.std.specs.List.{AllByRecursion}
use Rattle.std.specs.Borrow.{Bor}
use Rattle.script_defs.specs.Scripts.{Script}
use Rattle.script_read.specs.declared.statement.Numbered as numbereds
use Rattle.script_read.specs.Statements.{numbered_in}
use Rattle.run_laws.proofs.WorkLemmas.{sound_placed}
use Rattle.stage_builder.specs.Items.{numbered_at, StandsIn}
use Rattle.stage_builder.proofs.work.work_of.Goals as goal

pub returns-clause-stand : goal.returns-clause-stand
returns-clause-stand c =
    let script = c.args.script.now in
    let one = map numbered_in c.statements.result.now in
    let two = map numbered_in c.statements-2.result.now in
    let Whole : Script → Type 0 = λ x. AllByRecursion (StandsIn x) script in
    let Both : Script → Type 0 = λ x. AllByRecursion (StandsIn x) x in
    let Part : Script → Type 0 = λ y. AllByRecursion (StandsIn one) y in
    let Items : List (Bor numbereds.Numbered) → Type 0 = λ items. AllByRecursion (StandsIn one) (numbered_at items) in
    let Of : Script → Type 0 = λ x. AllByRecursion (StandsIn x) (numbered_at c.add.new.self.items.items) in
    let all = sound_placed script c.requires in
    subst Of c.statements.ensures
    (c.in_ok-add.ensures.stand (subst Both (sym c.statements.ensures) all) (subst Part (sym c.statements-2.ensures) (subst Whole (sym c.statements.ensures) all))
    (subst Items (sym c.new-2.ensures.items) tt))

use Rattle.std.proofs.Common.{◌++◌, List, map, filter, refl, sym, ap, ◌∙◌, subst}
use Rattle.std.specs.List.{AllByRecursion}
use Rattle.std.proofs.lemmas.List.{with_items_is}
use Rattle.script_defs.specs.Plans.{Stage, IsStage, is_stage, all_operands, IsPlan}
use Rattle.script_defs.specs.Scripts.{Script}
use Rattle.stage_builder.specs.declared.plan.Stage as stages
use Rattle.stage_builder.specs.Drafts.{done_by}
use Rattle.stage_builder.specs.Items.{items_at}
use Rattle.stage_builder.specs.Marks.{roots_of, marked}
use Rattle.stage_builder.specs.Tables.{script_in}
use Rattle.stage_builder.specs.Views.{stages_in}
use Rattle.stage_builder.proofs.PlanLemmas.{marked_plan, same_length}
use Rattle.stage_builder.proofs.building.build.Goals as goal

pub returns : goal.returns
returns c =
    let script = script_in c.in_ok-lines.lines in
    let drafts = c.add_stages.new.stages.items in
    let of_all = roots_of (all_operands (stages_in drafts)) in
    let stage = filter (is_stage script) in
    let order = c.in_ok-add_stages.ensures.order
    ∙ ap (λ (old : List stages.Stage). map done_by (stages_in old) ++ stage (items_at c.as_slice.result.now)) c.new-stages.ensures.items
    ∙ ap stage (ap items_at c.as_slice.ensures.value ∙ c.in_ok-items.ensures.items) in
    let All : List stages.Stage → Type 0 = λ old. AllByRecursion (IsStage script) (stages_in old) in
    let all = c.in_ok-add_stages.ensures.stages (subst All (sym c.new-stages.ensures.items) tt) in
    let marks = c.mark.ensures ∙ ap (λ (ss : List stages.Stage). marked (roots_of (all_operands (stages_in ss))) (stages_in ss)) c.as_mut_slice.ensures.value in
    let Plan : List Stage → Type 0 = λ plan. IsPlan script plan in
    let Of : Script → Type 0 = λ s. IsPlan s (stages_in c.mark.new.stages) in
    let room = sym (c.add_stages.new.stages.ok.0) in
    let items = with_items_is c.add_stages.new.stages c.mark.new.stages (same_length of_all c.mark.new.stages drafts marks ∙ room) in
    let Result : List stages.Stage → Type 0 = λ items. IsPlan c.args.script.now (stages_in items) in
    subst Result (sym items) (subst Of c.in_ok-lines.ensures.script (subst Plan (sym marks) (marked_plan script of_all (stages_in drafts) order all refl)))

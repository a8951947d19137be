use Rattle.std.proofs.Common.{◌≡◌, List, length, arith, refl, sym, ap, ◌∙◌, subst}
use Rattle.std.proofs.lemmas.Grind.{common_steps}
use Rattle.std.specs.List.{AllZip}
use Rattle.script_defs.specs.Needs.{inputs_needed}
use Rattle.block_pool.specs.Handles.{HandValue, Follows}
use Rattle.script_run.specs.Weighing.{IsWeighed}
use Rattle.script_run.proofs.AskedLemmas.{asked_no_one}
use Rattle.scatter.proofs.Hands.{follow_refl, follow_count}
use Rattle.script_run.proofs.accepted.run_accepted.Goals as goal
use Rattle.stage_laws.proofs.StageLemmas.{nothing_is_done}

pub returns-in-Err-clause-ends : goal.returns-in-Err-clause-ends
returns-in-Err-clause-ends g c = λ inputs told. nothing_is_done (IsWeighed c.args.hands.items) c.args.script.now (g.S.Sink.taken c.args.out.now) c.requires.sound inputs

pub returns-in-Err-clause-asked : goal.returns-in-Err-clause-asked
returns-in-Err-clause-asked g c = let needed = inputs_needed c.args.script.now in (needed, asked_no_one g.N.Shelf c.args.shelf.now c.args.shelf.now needed refl)

pub returns-in-Err-clause-follows : goal.returns-in-Err-clause-follows
returns-in-Err-clause-follows g c = follow_refl c.args.hands.items

pub returns-in-Ok-new-clause-count : goal.returns-in-Ok-new-clause-count
returns-in-Ok-new-clause-count g c =
    let long : length c.into_hands.result.items ≡ length c.args.hands.items =
    ap length c.into_hands.ensures ∙ follow_count c.in-Ok-new.team.hands.items c.do_plan-result.new.self.hands.items c.do_plan-result.ensures.stays.follows ∙ ap length c.in-Ok-new.ensures.hands in
    grind (arith, common_steps)

pub returns-clause-ends : goal.returns-clause-ends
returns-clause-ends g c = λ inputs told. nothing_is_done (IsWeighed c.in-Err-new.hands.items) c.args.script.now (g.S.Sink.taken c.args.out.now) c.requires.sound inputs

pub returns-clause-asked : goal.returns-clause-asked
returns-clause-asked g c = let needed = inputs_needed c.args.script.now in (needed, asked_no_one g.N.Shelf c.args.shelf.now c.args.shelf.now needed refl)

pub returns-clause-follows : goal.returns-clause-follows
returns-clause-follows g c =
    let To : List HandValue → Type 0 = λ hs. AllZip Follows c.args.hands.items hs in
    subst To (sym c.in-Err-new.ensures.returned) (follow_refl c.args.hands.items)

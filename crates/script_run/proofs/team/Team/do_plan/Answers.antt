use Rattle.std.proofs.Common.{◌≡◌, ◌<◌, ◌≤◌, Err, Result, IfErr, length, rules, arith, sym, ap, subst}
use Rattle.stage_builder.specs.Views.{stages_in}
use Rattle.stage_laws.specs.Standing.{Ended, EndsWith}
use Rattle.script_run.specs.declared.run_err.RunErr.{RunErr}
use Rattle.script_run.specs.Errors.{ending_in, TellsStop}
use Rattle.script_run.specs.Held.{held_of}
use Rattle.script_run.specs.Weighing.{IsWeighed}
use Rattle.script_run.proofs.AskedLemmas.{asked_all}
use Rattle.script_run.proofs.PlanLemmas.{begins, before_next, behind_last, ends_here, next_can, next_goes, next_stops, next_asked, next_tells, held_then}
use Rattle.script_run.proofs.team.Team.do_plan.Goals as goal

pub loop-stage-init : goal.loop-stage-init
loop-stage-init g c =
    begins g.N.Shelf g.S.Sink (held_of c.args.self.now) c.args.shelf.now c.args.out.now _ (stages_in c.as_slice-stage-items.result.now) c.requires.sound c.requires.plan
    (ap stages_in c.as_slice-stage-items.ensures.value) c.requires.none c.requires.ready

pub do_stage-requires-clause-can : goal.do_stage-requires-clause-can
do_stage-requires-clause-can g c = λ κs lives.
    let within : c.loop-stage.stage-index < length c.as_slice-stage-items.result.now = omega arith in
    let before = before_next g.N.Shelf g.S.Sink (held_of c.args.self.now) c.args.shelf.now c.args.out.now (held_of c.loop-stage.self) c.loop-stage.shelf c.loop-stage.out
    c.as_slice-stage-items.result.now c.loop-stage.stage-index c.stage-item.result within c.stage-item.is c.loop-stage.invariant in
    next_can g.N.Shelf g.S.Sink (held_of c.args.self.now) c.args.shelf.now c.args.out.now (held_of c.loop-stage.self) c.loop-stage.shelf c.loop-stage.out _ _ before c.requires.sound

pub do_stage-requires-clause-ready : goal.do_stage-requires-clause-ready
do_stage-requires-clause-ready g c = λ κs lives. c.loop-stage.invariant.ready

pub loop-stage-preserved : goal.loop-stage-preserved
loop-stage-preserved g c =
    let within : c.loop-stage.stage-index < length c.as_slice-stage-items.result.now = omega arith in
    let before = before_next g.N.Shelf g.S.Sink (held_of c.args.self.now) c.args.shelf.now c.args.out.now (held_of c.loop-stage.self) c.loop-stage.shelf c.loop-stage.out
    c.as_slice-stage-items.result.now c.loop-stage.stage-index c.stage-item.result within c.stage-item.is c.loop-stage.invariant in
    let did = c.in_ok-do_stage.ensures in
    next_goes g.N.Shelf g.S.Sink (held_of c.args.self.now) c.args.shelf.now c.args.out.now (held_of c.loop-stage.self) c.loop-stage.shelf c.loop-stage.out _ _ before
    (held_of c.do_stage.new.self) c.do_stage.new.shelf c.do_stage.new.out did.ok did.stays did.shelf did.counts did.asked

pub returns-in_err-do_stage-clause-ends : goal.returns-in_err-do_stage-clause-ends
returns-in_err-do_stage-clause-ends g c = λ inputs tells.
    let run = held_of c.args.self.now in
    let within : c.loop-stage.stage-index < length c.as_slice-stage-items.result.now = omega arith in
    let before = before_next g.N.Shelf g.S.Sink run c.args.shelf.now c.args.out.now (held_of c.loop-stage.self) c.loop-stage.shelf c.loop-stage.out
    c.as_slice-stage-items.result.now c.loop-stage.stage-index c.stage-item.result within c.stage-item.is c.loop-stage.invariant in
    let e = c.in_err-do_stage.field-0.0 in
    let new = held_of c.do_stage.new.self in
    let same : c.from_residual.result ≡ Err e = search rules in
    let Ends : Result (Unit {0}) RunErr → Type 0 = λ r. Ended (g.S.Sink.taken c.args.out.now) (EndsWith (IsWeighed new.hands) run.script inputs (ending_in r)) (g.S.Sink.taken c.do_stage.new.out) in
    subst Ends (sym same)
    (next_stops g.N.Shelf g.S.Sink run c.args.shelf.now c.args.out.now (held_of c.loop-stage.self) c.loop-stage.shelf c.loop-stage.out _ _ before e new c.do_stage.new.out
    c.in_err-do_stage.ensures.stays c.in_err-do_stage.ensures.refused inputs tells)

pub returns-in_err-do_stage-clause-told : goal.returns-in_err-do_stage-clause-told
returns-in_err-do_stage-clause-told g c =
    let run = held_of c.args.self.now in
    let within : c.loop-stage.stage-index < length c.as_slice-stage-items.result.now = omega arith in
    let before = before_next g.N.Shelf g.S.Sink run c.args.shelf.now c.args.out.now (held_of c.loop-stage.self) c.loop-stage.shelf c.loop-stage.out
    c.as_slice-stage-items.result.now c.loop-stage.stage-index c.stage-item.result within c.stage-item.is c.loop-stage.invariant in
    let e = c.in_err-do_stage.field-0.0 in
    let new = held_of c.do_stage.new.self in
    let same : c.from_residual.result ≡ Err e = search rules in
    let Told : Result (Unit {0}) RunErr → Type 0 = λ r.
    IfErr r (λ x. TellsStop x (g.N.Shelf.faults c.args.shelf.now) (g.N.Shelf.faults c.do_stage.new.shelf) (g.S.Sink.faults c.args.out.now) (g.S.Sink.faults c.do_stage.new.out) run.hands new.hands) in
    subst Told (sym same)
    (next_tells g.N.Shelf g.S.Sink run c.args.shelf.now c.args.out.now (held_of c.loop-stage.self) c.loop-stage.shelf c.loop-stage.out _ _ before e new c.do_stage.new.shelf c.do_stage.new.out
    c.in_err-do_stage.ensures.told)

pub returns-in_err-do_stage-clause-asked : goal.returns-in_err-do_stage-clause-asked
returns-in_err-do_stage-clause-asked g c =
    let run = held_of c.args.self.now in
    let within : c.loop-stage.stage-index < length c.as_slice-stage-items.result.now = omega arith in
    let before = before_next g.N.Shelf g.S.Sink run c.args.shelf.now c.args.out.now (held_of c.loop-stage.self) c.loop-stage.shelf c.loop-stage.out
    c.as_slice-stage-items.result.now c.loop-stage.stage-index c.stage-item.result within c.stage-item.is c.loop-stage.invariant in
    let same : c.from_residual.result ≡ Err c.in_err-do_stage.field-0.0 = search rules in
    rw same (next_asked g.N.Shelf g.S.Sink run c.args.shelf.now c.args.out.now (held_of c.loop-stage.self) c.loop-stage.shelf c.loop-stage.out _ _ before c.do_stage.new.shelf c.in_err-do_stage.ensures.asked)

pub returns-in_err-do_stage-clause-stays : goal.returns-in_err-do_stage-clause-stays
returns-in_err-do_stage-clause-stays g c =
    held_then (held_of c.args.self.now) (held_of c.loop-stage.self) (held_of c.do_stage.new.self) c.loop-stage.invariant.stays c.in_err-do_stage.ensures.stays

pub returns-clause-ends : goal.returns-clause-ends
returns-clause-ends g c =
    let past : length c.as_slice-stage-items.result.now ≤ c.loop-stage.stage-index = omega arith in
    ends_here g.N.Shelf g.S.Sink (held_of c.args.self.now) c.args.shelf.now c.args.out.now (held_of c.loop-stage.self) c.loop-stage.shelf c.loop-stage.out
    (behind_last g.N.Shelf g.S.Sink (held_of c.args.self.now) c.args.shelf.now c.args.out.now (held_of c.loop-stage.self) c.loop-stage.shelf c.loop-stage.out
    c.as_slice-stage-items.result.now c.loop-stage.stage-index past c.loop-stage.invariant)

pub returns-clause-asked : goal.returns-clause-asked
returns-clause-asked g c =
    let past : length c.as_slice-stage-items.result.now ≤ c.loop-stage.stage-index = omega arith in
    let before = behind_last g.N.Shelf g.S.Sink (held_of c.args.self.now) c.args.shelf.now c.args.out.now (held_of c.loop-stage.self) c.loop-stage.shelf c.loop-stage.out
    c.as_slice-stage-items.result.now c.loop-stage.stage-index past c.loop-stage.invariant in
    asked_all g.N.Shelf c.args.shelf.now c.loop-stage.shelf _ before.asked

use Rattle.std.proofs.Common.{◌≡◌, ◌+◌, ◌/◌, ◌<◌, length, is_some, arith, refl, sym, ap, ◌∙◌, subst}
use Rattle.std.proofs.lemmas.Grind.{common_steps}
use Rattle.script_defs.specs.Needs.{inputs_needed}
use Rattle.script_defs.specs.Ends.{Ending, cut_off}
use Rattle.block_pool.specs.Handles.{PoolName}
use Rattle.block_pool.specs.Opening.{opened_as}
use Rattle.block_pool.specs.declared.pool.TheConstants.{SPARE_PERMITS}
use Rattle.stage_laws.specs.Standing.{Ended, EndsWith}
use Rattle.script_run.specs.Errors.{ending_of, ending_in}
use Rattle.script_run.specs.Weighing.{IsWeighed, IsSpilled}
use Rattle.script_run.proofs.AskedLemmas.{asked_no_one}
use Rattle.script_run.proofs.PlanLemmas.{ended_grows}
use Rattle.script_run.proofs.PoolLemmas.{hands_in, hands_have, tells_as, passes_in, stop_told, told_all, open_cut}
use Rattle.script_run.proofs.WeighLemmas.{spilled}
use Rattle.script_run.proofs.pool.run_job.Goals as goal
use Rattle.dia_edge.proofs.Results.{IfErr-map}
use Rattle.stage_laws.proofs.StageLemmas.{nothing_is_done}

pub returns-in_default-clause-ends : goal.returns-in_default-clause-ends
returns-in_default-clause-ends g c = λ inputs all.
    nothing_is_done (IsSpilled c.args.setup.limit c.args.setup.block (g.D.Disk.writes c.args.disk) (g.D.Disk.writes c.args.disk)) c.args.script.now (g.S.Sink.taken c.args.out.now) c.requires.sound inputs

pub returns-in_default-clause-asked : goal.returns-in_default-clause-asked
returns-in_default-clause-asked g c = let needed = inputs_needed c.args.script.now in (needed, asked_no_one g.N.Shelf c.args.shelf.now c.args.shelf.now needed refl)

pub returns-in_default-with_capacity-clause-ends : goal.returns-in_default-with_capacity-clause-ends
returns-in_default-with_capacity-clause-ends g c = λ inputs all.
    nothing_is_done (IsSpilled c.args.setup.limit c.args.setup.block (g.D.Disk.writes c.args.disk) (g.D.Disk.writes c.args.disk)) c.args.script.now (g.S.Sink.taken c.args.out.now) c.requires.sound inputs

pub returns-in_default-with_capacity-clause-asked : goal.returns-in_default-with_capacity-clause-asked
returns-in_default-with_capacity-clause-asked g c = let needed = inputs_needed c.args.script.now in (needed, asked_no_one g.N.Shelf c.args.shelf.now c.args.shelf.now needed refl)

pub returns-in-Err-clause-ends : goal.returns-in-Err-clause-ends
returns-in-Err-clause-ends g c = λ inputs all.
    let same : ending_of c.open_err.result ≡ cut_off = ap ending_of c.open_err.ensures ∙ open_cut c.in-Err.why in
    let End : Ending → Type 0 = λ e.
    Ended (g.S.Sink.taken c.args.out.now) (EndsWith (IsSpilled c.args.setup.limit c.args.setup.block (g.D.Disk.writes c.args.disk) (g.D.Disk.writes c.in-Err.disk)) c.args.script.now inputs e)
    (g.S.Sink.taken c.args.out.now) in
    subst End (sym same)
    (nothing_is_done (IsSpilled c.args.setup.limit c.args.setup.block (g.D.Disk.writes c.args.disk) (g.D.Disk.writes c.in-Err.disk)) c.args.script.now (g.S.Sink.taken c.args.out.now) c.requires.sound inputs)

pub returns-in-Err-clause-asked : goal.returns-in-Err-clause-asked
returns-in-Err-clause-asked g c = let needed = inputs_needed c.args.script.now in (needed, asked_no_one g.N.Shelf c.args.shelf.now c.args.shelf.now needed refl)

pub run_accepted-result-requires-clause-one : goal.run_accepted-result-requires-clause-one
run_accepted-result-requires-clause-one g c = λ κs lives.
    let setup = c.args.setup in
    let name : PoolName = opened_as c.in-Ok-open.opened.0 (setup.limit / setup.block) setup.block (is_some (g.D.Disk.slots c.args.disk)) (g.D.Disk.faults c.args.disk) (g.D.Disk.writes c.args.disk) in
    record {
      pool = name;
      all = hands_in name (setup.workers + SPARE_PERMITS) c.in-Ok-open.opened.1.items c.hands_for-hands.result.items c.hands_for-hands.ensures.hands c.in-Ok-open.ensures.shares.each;
    }

pub run_accepted-result-requires-clause-permits : goal.run_accepted-result-requires-clause-permits
run_accepted-result-requires-clause-permits g c = λ κs lives.
    let setup = c.args.setup in
    let name : PoolName = opened_as c.in-Ok-open.opened.0 (setup.limit / setup.block) setup.block (is_some (g.D.Disk.slots c.args.disk)) (g.D.Disk.faults c.args.disk) (g.D.Disk.writes c.args.disk) in
    hands_have name (setup.workers + SPARE_PERMITS) c.in-Ok-open.opened.1.items c.hands_for-hands.result.items (omega arith) c.hands_for-hands.ensures.hands c.in-Ok-open.ensures.shares.each

pub finish-disk-requires-clause-own : goal.finish-disk-requires-clause-own
finish-disk-requires-clause-own g c =
    let setup = c.args.setup in
    let name : PoolName = opened_as c.in-Ok-open.opened.0 (setup.limit / setup.block) setup.block (is_some (g.D.Disk.slots c.args.disk)) (g.D.Disk.faults c.args.disk) (g.D.Disk.writes c.args.disk) in
    let hands = c.hands_for-hands.result.items in
    let own = hands_in name (setup.workers + SPARE_PERMITS) c.in-Ok-open.opened.1.items hands c.hands_for-hands.ensures.hands c.in-Ok-open.ensures.shares.each in
    (name.opening, passes_in name hands c.run_accepted-result.result.1.items c.passes_of-passes.result.items own c.run_accepted-result.ensures.follows c.passes_of-passes.ensures.passes)

pub returns-clause-ends : goal.returns-clause-ends
returns-clause-ends g c = λ inputs all.
    let setup = c.args.setup in
    let name : PoolName = opened_as c.in-Ok-open.opened.0 (setup.limit / setup.block) setup.block (is_some (g.D.Disk.slots c.args.disk)) (g.D.Disk.faults c.args.disk) (g.D.Disk.writes c.args.disk) in
    let hands = c.hands_for-hands.result.items in
    let now = c.run_accepted-result.result.1.items in
    let own = hands_in name (setup.workers + SPARE_PERMITS) c.in-Ok-open.opened.1.items hands c.hands_for-hands.ensures.hands c.in-Ok-open.ensures.shares.each in
    let workers = c.in-Ok-open.ensures.shares.count in
    let some : 0 < length hands = grind (arith, common_steps) in
    let grows = spilled name setup.limit setup.block (g.D.Disk.faults c.finish-disk.result) (g.D.Disk.writes c.finish-disk.result) hands now c.passes_of-passes.result.items refl refl (omega arith) own
    c.run_accepted-result.ensures.follows c.passes_of-passes.ensures.passes c.finish-disk.ensures in
    ended_grows (IsWeighed now) (IsSpilled setup.limit setup.block (g.D.Disk.writes c.args.disk) (g.D.Disk.writes c.finish-disk.result)) c.args.script.now inputs (g.S.Sink.taken c.args.out.now)
    (ending_in c.run_accepted-result.result.0) (g.S.Sink.taken c.run_accepted-result.new.out) grows
    (c.run_accepted-result.ensures.ends inputs
    (told_all (g.N.Shelf.holds c.args.shelf.now) (g.N.Shelf.is_fixed c.args.shelf.now) (is_some (g.D.Disk.slots c.args.disk)) inputs hands all (tells_as name hands some own)))

pub returns-clause-told : goal.returns-clause-told
returns-clause-told g c =
    let setup = c.args.setup in
    let name : PoolName = opened_as c.in-Ok-open.opened.0 (setup.limit / setup.block) setup.block (is_some (g.D.Disk.slots c.args.disk)) (g.D.Disk.faults c.args.disk) (g.D.Disk.writes c.args.disk) in
    let hands = c.hands_for-hands.result.items in
    let now = c.run_accepted-result.result.1.items in
    let passes = c.passes_of-passes.result.items in
    let own = hands_in name (setup.workers + SPARE_PERMITS) c.in-Ok-open.opened.1.items hands c.hands_for-hands.ensures.hands c.in-Ok-open.ensures.shares.each in
    let are = passes_in name hands now passes own c.run_accepted-result.ensures.follows c.passes_of-passes.ensures.passes in
    IfErr-map _ _ _ (λ e tells.
    stop_told name e (g.N.Shelf.faults c.args.shelf.now) (g.N.Shelf.faults c.run_accepted-result.new.shelf) (g.S.Sink.faults c.args.out.now) (g.S.Sink.faults c.run_accepted-result.new.out)
    (g.D.Disk.faults c.finish-disk.result) (g.D.Disk.writes c.finish-disk.result) hands now passes own c.passes_of-passes.ensures.passes are c.finish-disk.ensures tells)
    c.run_accepted-result.ensures.told

use Rattle.std.proofs.Common.{◌≡◌, ◌≤◌, List, length, Result, Err, IfErr, rules, refl, sym, subst}
use Rattle.std.specs.Prelude.{All}
use Rattle.std.specs.List.{AllZip}
use Rattle.row_defs.specs.declared.kind.Kind.{Kind}
use Rattle.row_defs.specs.Limits.{most_rows}
use Rattle.script_defs.specs.Work.{do_line}
use Rattle.block_pool.specs.Handles.{PoolName, HandValue}
use Rattle.dia_file.specs.Cuts.{rows_of_files}
use Rattle.dia_file.specs.Files.{IsFileOf, FileValue}
use Rattle.lop_chain.specs.Operands.{operand_in}
use Rattle.scatter.specs.Lines.{HasKinds}
use Rattle.scatter.specs.Phases.{pools_of}
use Rattle.scatter.specs.Told.{AreTold, arriving}
use Rattle.scatter.proofs.SameLines.{same_pools}
use Rattle.script_run.specs.declared.run_err.RunErr.{RunErr}
use Rattle.script_run.specs.declared.run_err.RunErr.TheVariants as errors
use Rattle.script_run.specs.Held.{held_of}
use Rattle.script_run.specs.Steps.{StopsAt}
use Rattle.script_run.specs.Weighing.{IsWeighed}
use Rattle.script_run.proofs.ActLemmas.{used_ready}
use Rattle.script_run.proofs.CacheLemmas.{cache_goes_on, cache_stops}
use Rattle.script_run.proofs.HandLemmas.{one_still}
use Rattle.script_run.proofs.PlanLemmas.{held_then}
use Rattle.script_run.proofs.StepLemmas.{memory_stops, follows_put}
use Rattle.script_run.proofs.TaskLemmas.{cache_kinds}
use Rattle.script_run.proofs.team.Team.cache.Goals as goal
use Rattle.dia_edge.proofs.Results.{IfErr-map, OnOk-map}
use Rattle.scatter.proofs.Hands.{follow_trans, permits_trans}

pub weigh-requires-clause-one : goal.weigh-requires-clause-one
weigh-requires-clause-one g c = one_still c.args.self.now.hands.items c.run.new.hands.items c.run.ensures.follows c.requires.ready.one

pub weigh-requires-clause-own : goal.weigh-requires-clause-own
weigh-requires-clause-own g c =
    let Own : List PoolName → Type 0 = λ pools. AllZip IsFileOf pools c.in-Ok.files.items in
    subst Own (sym (same_pools c.args.self.now.hands.items c.run.new.hands.items c.run.ensures.follows)) c.in-Ok.ensures.own

pub returns-in_err-files-in-Ok-clause-refused : goal.returns-in_err-files-in-Ok-clause-refused
returns-in_err-files-in-Ok-clause-refused g c = λ told taken.
    let same : c.from_residual.result ≡ Err errors.NoMemory = search rules in
    let Stop : Result (Unit {0}) RunErr → Type 0 = λ r. IfErr r (λ e. StopsAt (do_line c.args.number) told (held_of c.args.self.now) taken e taken) in
    subst Stop (sym same) (memory_stops (do_line c.args.number) told (held_of c.args.self.now) taken errors.NoMemory refl)

pub returns-in_err-files-in-Ok-clause-stays : goal.returns-in_err-files-in-Ok-clause-stays
returns-in_err-files-in-Ok-clause-stays g c = record {
  script = refl;
  workers = c.run.ensures.workers;
  follows = follow_trans c.args.self.now.hands.items c.run.new.hands.items c.weigh.new.hands.items c.run.ensures.follows c.weigh.ensures.follows;
}

pub put-requires-clause-ready : goal.put-requires-clause-ready
put-requires-clause-ready g c = λ κs lives.
    let old = held_of c.args.self.now in
    used_ready (operand_in c.args.operand.now).root c.args.operand.now.last old _ (record {
      lines = c.in-Ok.ensures.lines;
      script = refl;
      workers = c.run.ensures.workers;
      follows = follow_trans old.hands c.run.new.hands.items c.weigh.new.hands.items c.run.ensures.follows c.weigh.ensures.follows;
      permits = permits_trans old.hands c.run.new.hands.items c.weigh.new.hands.items c.in-Ok.ensures.permits c.weigh.ensures.permits;
      empty = c.requires.ready.empty;
    }) c.requires.ready

pub put-requires-clause-kinds : goal.put-requires-clause-kinds
put-requires-clause-kinds g c = λ κs lives.
    let same = c.in_ok-files-in-Ok.ensures.files in
    let Have : List Kind → Type 0 = λ ks. All (HasKinds ks) c.in-Ok.files.items in
    let All-have : List FileValue → Type 0 = λ fs. All (HasKinds (operand_in c.args.operand.now).kinds) fs in
    let Final : List Kind → Type 0 = λ ks. All (HasKinds ks) c.in_ok-files-in-Ok.files.items in
    subst Final (cache_kinds c.args.self.now.script.now c.args.number c.requires.is.0 (operand_in c.args.operand.now) c.requires.sound c.requires.is.1)
    (subst All-have (sym same) c.in-Ok.ensures.kinds)

pub put-requires-clause-own : goal.put-requires-clause-own
put-requires-clause-own g c = λ κs lives.
    let old = c.args.self.now.hands.items in
    let now = c.weigh.new.hands.items in
    let Own : List PoolName → Type 0 = λ pools. AllZip IsFileOf pools c.in-Ok.files.items in
    let Files : List FileValue → Type 0 = λ fs. AllZip IsFileOf (pools_of now) fs in
    subst Files (sym c.in_ok-files-in-Ok.ensures.files)
    (subst Own (sym (same_pools old now (follow_trans old c.run.new.hands.items now c.run.ensures.follows c.weigh.ensures.follows))) c.in-Ok.ensures.own)

pub returns-in_ok-files-in-Ok-clause-ok : goal.returns-in_ok-files-in-Ok-clause-ok
returns-in_ok-files-in-Ok-clause-ok g c = λ told taken.
    let old = held_of c.args.self.now in
    let new = held_of c.put.new.self in
    let o = operand_in c.args.operand.now in
    let files = c.in_ok-files-in-Ok.files.items in
    let same : files ≡ c.in-Ok.files.items = c.in_ok-files-in-Ok.ensures.files in
    let Few : List FileValue → Type 0 = λ fs. length (rows_of_files fs) ≤ most_rows in
    let Rows : List FileValue → Type 0 = λ fs. AreTold o.root old.hands → rows_of_files fs ≡ arriving old.lines o.root o.chain in
    let now = c.weigh.new.hands.items in
    let follows = follow_trans old.hands c.run.new.hands.items now c.run.ensures.follows c.weigh.ensures.follows in
    let Weighed-files : List FileValue → Type 0 = λ fs. IsWeighed now (rows_of_files fs) in
    OnOk-map _ _ _ (λ put.
    let Weighed-hands : List HandValue → Type 0 = λ hs. IsWeighed hs (rows_of_files files) in
    cache_goes_on c.args.number c.requires.is.0 o old told c.requires.is.1 c.requires.can.rows c.requires.ready files _ new taken c.in-Ok.ensures.lines
    (subst Rows (sym same) c.in-Ok.ensures.rows) (subst Few (sym same) c.in-Ok.ensures.few) (follows_put old.hands now new.hands put.hands follows)
    (subst Weighed-hands (sym put.hands) (subst Weighed-files (sym same) c.in_ok-files-in-Ok.ensures.weighed)) put) c.put.ensures.ok

pub returns-in_ok-files-in-Ok-clause-refused : goal.returns-in_ok-files-in-Ok-clause-refused
returns-in_ok-files-in-Ok-clause-refused g c = λ told taken.
    IfErr-map _ _ _ (λ e none. memory_stops (do_line c.args.number) told (held_of c.args.self.now) taken e none) c.put.ensures.err

pub returns-in_ok-files-in-Ok-clause-stays : goal.returns-in_ok-files-in-Ok-clause-stays
returns-in_ok-files-in-Ok-clause-stays g c =
    held_then (held_of c.args.self.now) _ (held_of c.put.new.self)
    (record {
      script = refl;
      workers = c.run.ensures.workers;
      follows = follow_trans c.args.self.now.hands.items c.run.new.hands.items c.weigh.new.hands.items c.run.ensures.follows c.weigh.ensures.follows;
    }) c.put.ensures.stays

pub returns-in-Err-clause-refused : goal.returns-in-Err-clause-refused
returns-in-Err-clause-refused g c = λ told taken.
    let o = operand_in c.args.operand.now in
    let Stop : RunErr → Type 0 = λ e. StopsAt (do_line c.args.number) told (held_of c.args.self.now) taken e taken in
    subst Stop (sym c.place_err.ensures)
    (cache_stops c.args.number c.requires.is.0 o (held_of c.args.self.now) told c.requires.is.1 c.requires.can.rows c.requires.ready o.chain c.run.new.hands.items taken c.in-Err.why refl c.in-Err.ensures.refused)

use Rattle.std.proofs.Common.{List, refl, sym, subst}
use Rattle.std.specs.Prelude.{All}
use Rattle.std.specs.List.{AllZip}
use Rattle.row_defs.specs.declared.kind.Kind.{Kind}
use Rattle.script_defs.specs.Work.{do_line}
use Rattle.block_pool.specs.Handles.{PoolName}
use Rattle.dia_file.specs.Files.{IsFileOf}
use Rattle.scatter.specs.Lines.{HasKinds}
use Rattle.scatter.proofs.SameLines.{same_pools}
use Rattle.script_run.specs.Held.{held_of, told_in}
use Rattle.script_run.proofs.PlanLemmas.{held_then}
use Rattle.script_run.proofs.StepLemmas.{hands_ready, input_goes_on, input_stops, memory_stops, follows_put}
use Rattle.script_run.proofs.TaskLemmas.{text_kinds}
use Rattle.script_run.proofs.team.Team.read.Goals as goal
use Rattle.dia_edge.proofs.Results.{IfErr-map, OnOk-map}

pub put-requires-clause-ready : goal.put-requires-clause-ready
put-requires-clause-ready g c = λ κs lives.
    hands_ready (held_of c.args.self.now) _ refl refl refl refl c.read_parts.ensures.follows c.read_parts.ensures.permits c.requires.ready

pub put-requires-clause-kinds : goal.put-requires-clause-kinds
put-requires-clause-kinds g c = λ κs lives.
    let Have : List Kind → Type 0 = λ ks. All (HasKinds ks) c.in-Ok.files.items in
    subst Have (sym (text_kinds c.args.self.now.script.now c.args.number c.requires.is.0 c.args.input.now c.requires.sound c.requires.is.1)) c.in-Ok.ensures.kinds

pub put-requires-clause-own : goal.put-requires-clause-own
put-requires-clause-own g c = λ κs lives.
    let Own : List PoolName → Type 0 = λ pools. AllZip IsFileOf pools c.in-Ok.files.items in
    subst Own (sym (same_pools c.args.self.now.hands.items c.read_parts.new.hands.items c.read_parts.ensures.follows)) c.in-Ok.ensures.own

pub returns-in-Ok-clause-ok : goal.returns-in-Ok-clause-ok
returns-in-Ok-clause-ok g c = λ taken.
    let old = held_of c.args.self.now in
    let new = held_of c.put.new.self in
    OnOk-map _ _ _ (λ put.
    input_goes_on c.args.number c.requires.is.0 c.args.input.now c.in-Ok.files.items old _ new (g.N.Shelf.holds c.args.shelf.now) (g.N.Shelf.is_fixed c.args.shelf.now) taken
    c.requires.is.1 c.in-Ok.ensures.read refl (follows_put old.hands c.read_parts.new.hands.items new.hands put.hands c.read_parts.ensures.follows) put) c.put.ensures.ok

pub returns-in-Ok-clause-refused : goal.returns-in-Ok-clause-refused
returns-in-Ok-clause-refused g c = λ taken.
    IfErr-map _ _ _ (λ e none. memory_stops (do_line c.args.number) (told_in (g.N.Shelf.holds c.args.shelf.now) (g.N.Shelf.is_fixed c.args.shelf.now)) (held_of c.args.self.now) taken e none) c.put.ensures.err

pub returns-in-Ok-clause-stays : goal.returns-in-Ok-clause-stays
returns-in-Ok-clause-stays g c =
    held_then (held_of c.args.self.now) _ (held_of c.put.new.self) (record { script = refl; workers = refl; follows = c.read_parts.ensures.follows }) c.put.ensures.stays

pub returns-in-Err-clause-refused : goal.returns-in-Err-clause-refused
returns-in-Err-clause-refused g c = λ taken.
    input_stops (held_of c.args.self.now) (g.N.Shelf.holds c.args.shelf.now) (g.N.Shelf.is_fixed c.args.shelf.now) c.args.number c.requires.is.0 c.args.input.now taken c.in-Err.why c.input_err.result
    c.requires.is.1 c.in-Err.ensures.refused c.input_err.ensures

use Rattle.script_defs.specs.Plans.{Stage, item_of}
use Rattle.stage_builder.specs.declared.plan.Task.TheVariants.{Read, Cache, Act}
use Rattle.script_run.specs.Held.{held_of, kept_by, told_in}
use Rattle.script_run.specs.Steps.{StopsAt}
use Rattle.script_run.proofs.TaskLemmas.{of_task, act_stage, cache_stage}
use Rattle.script_run.proofs.team.Team.do_stage.Goals as goal
use Rattle.dia_edge.proofs.Results.{IfErr-map}

pub cache-requires-clause-can : goal.cache-requires-clause-can
cache-requires-clause-can g c = λ κs lives.
    let run = held_of c.args.self.now in
    (cache_stage run.script c.args.stage.now c.in-Cache.name c.in-Cache.of c.in-Cache.operand (kept_by run.lines) c.in-Cache.is c.requires.can).can

pub act-requires-clause-can : goal.act-requires-clause-can
act-requires-clause-can g c = λ κs lives.
    let run = held_of c.args.self.now in
    (act_stage run.script c.args.stage.now c.in-Act.action c.in-Act.operand (kept_by run.lines) c.in-Act.is c.requires.can).can

pub act-requires-clause-acts : goal.act-requires-clause-acts
act-requires-clause-acts g c = λ κs lives.
    let run = held_of c.args.self.now in
    (act_stage run.script c.args.stage.now c.in-Act.action c.in-Act.operand (kept_by run.lines) c.in-Act.is c.requires.can).acts

pub returns-in-Read-clause-refused : goal.returns-in-Read-clause-refused
returns-in-Read-clause-refused g c = IfErr-map _ _ _ (λ e stops.
    let run = held_of c.args.self.now in
    let Stop : Stage → Type 0 = λ s. StopsAt (item_of s.number s.statement) (told_in (g.N.Shelf.holds c.args.shelf.now) (g.N.Shelf.is_fixed c.args.shelf.now)) run (g.S.Sink.taken c.args.out.now) e (g.S.Sink.taken c.args.out.now) in
    of_task c.args.stage.now (Read c.in-Read.name c.in-Read.input) Stop c.in-Read.is stops)
    (c.read.ensures.refused (g.S.Sink.taken c.args.out.now))

pub returns-in-Cache-clause-refused : goal.returns-in-Cache-clause-refused
returns-in-Cache-clause-refused g c = IfErr-map _ _ _ (λ e stops.
    let run = held_of c.args.self.now in
    let Stop : Stage → Type 0 = λ s. StopsAt (item_of s.number s.statement) (told_in (g.N.Shelf.holds c.args.shelf.now) (g.N.Shelf.is_fixed c.args.shelf.now)) run (g.S.Sink.taken c.args.out.now) e (g.S.Sink.taken c.args.out.now) in
    of_task c.args.stage.now (Cache c.in-Cache.name c.in-Cache.of c.in-Cache.operand) Stop c.in-Cache.is stops)
    (c.cache.ensures.refused (told_in (g.N.Shelf.holds c.args.shelf.now) (g.N.Shelf.is_fixed c.args.shelf.now)) (g.S.Sink.taken c.args.out.now))

pub returns-in-Act-clause-refused : goal.returns-in-Act-clause-refused
returns-in-Act-clause-refused g c = IfErr-map _ _ _ (λ e stops.
    let run = held_of c.args.self.now in
    let Stop : Stage → Type 0 = λ s. StopsAt (item_of s.number s.statement) (told_in (g.N.Shelf.holds c.args.shelf.now) (g.N.Shelf.is_fixed c.args.shelf.now)) run (g.S.Sink.taken c.args.out.now) e (g.S.Sink.taken c.act.new.out) in
    of_task c.args.stage.now (Act c.in-Act.action c.in-Act.operand) Stop c.in-Act.is stops)
    (c.act.ensures.refused (told_in (g.N.Shelf.holds c.args.shelf.now) (g.N.Shelf.is_fixed c.args.shelf.now)))

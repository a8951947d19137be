use Rattle.std.proofs.Common.{drop}
use Rattle.stage_builder.specs.Views.{stages_in}
use Rattle.script_run.specs.Held.{held_of}
use Rattle.script_run.proofs.PlanLemmas.{IsBefore}
use Rattle.script_run.proofs.team.Team.do_plan.Given as goal

abbrev pub invariant-loop-stage : goal.invariant-loop-stage
invariant-loop-stage g l = IsBefore g.N.Shelf g.S.Sink (held_of l.fn.self) l.fn.shelf l.fn.out (held_of l.self) l.shelf l.out (stages_in (drop l.stage-index l.stage-items))

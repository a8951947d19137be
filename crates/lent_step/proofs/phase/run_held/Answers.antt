use Rattle.dia_edge.proofs.Results.{IfErr-map, OnOk-map}
use Rattle.lent_step.proofs.Phases.{desks_kept, all_ran, all_done, fault_found}
use Rattle.lent_step.proofs.phase.run_held.Goals as goal

pub returns-clause-desks : goal.returns-clause-desks
returns-clause-desks g c =
    desks_kept g.W.LentTask c.begin.new.tasks.items c.run_all-answer.new.tasks.items _ _ _ c.begin.ensures.held c.run_all-answer.ensures.follows c.part_all.ensures.desks

pub returns-clause-all : goal.returns-clause-all
returns-clause-all g c =
    all_ran g.W.LentTask c.begin.new.tasks.items c.run_all-answer.new.tasks.items _ _ _ _ c.begin.ensures.held c.run_all-answer.ensures.follows c.part_all.ensures.desks c.part_all.ensures.works

pub returns-clause-done : goal.returns-clause-done
returns-clause-done g c =
    OnOk-map c.run_all-answer.result _ _ (λ done. all_done g.W.LentTask c.run_all-answer.new.tasks.items _ _ done c.part_all.ensures.desks c.part_all.ensures.works) c.run_all-answer.ensures.done

pub returns-clause-faulted : goal.returns-clause-faulted
returns-clause-faulted g c =
    IfErr-map c.run_all-answer.result _ _
    (λ e low. fault_found g.W.LentTask c.begin.new.tasks.items c.run_all-answer.new.tasks.items _ _ _ _ e low c.begin.ensures.held c.run_all-answer.ensures.follows c.part_all.ensures.desks c.part_all.ensures.works)
    c.run_all-answer.ensures.faulted

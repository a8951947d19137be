use Rattle.std.proofs.Common.{ℕ, Option, Some, sym, subst}
use Rattle.job_words.specs.declared.fault.TopFault.{TopFault}
use Rattle.thrill_top.specs.Errors.{run_end}
use Rattle.thrill_top.specs.Promise.{KeepsPromise}
use Rattle.thrill_top.proofs.RanLemmas.{Ran, ran_promise}
use Rattle.thrill_top.proofs.UnreadLemmas.{unread_promise}
use Rattle.thrill_top.proofs.job.job_call.Goals as goal

pub returns-in-Ok-clause-promise : goal.returns-in-Ok-clause-promise
returns-in-Ok-clause-promise g c =
    let job = c.args.job.now in
    let setup = c.setup_of.result in
    let shelf = c.args.shelf.now in
    let mid = c.script_named.new.shelf in
    let now = c.run_job-answer.new.shelf in
    let out = c.args.out.now in
    let out_now = c.run_job-answer.new.out in
    let answer = c.run_job-answer.result.0 in
    let disk = c.run_job-answer.result.1 in
    let did = c.run_job-answer.ensures in
    let Limit : ℕ → Type 0 = λ k. Ran g.N.Shelf g.S.Sink g.D.Disk k setup.block setup.workers c.in-Ok.script mid now out out_now c.args.disk disk answer in
    let Block : ℕ → Type 0 = λ k. Ran g.N.Shelf g.S.Sink g.D.Disk job.limit k setup.workers c.in-Ok.script mid now out out_now c.args.disk disk answer in
    let Workers : ℕ → Type 0 = λ k. Ran g.N.Shelf g.S.Sink g.D.Disk job.limit job.block k c.in-Ok.script mid now out out_now c.args.disk disk answer in
    let ran = subst Workers c.setup_of.ensures.workers (subst Block c.setup_of.ensures.block (subst Limit c.setup_of.ensures.limit
    (record { ends = did.ends; told = did.told; asked = did.asked; small = did.small; enough = did.enough }))) in
    let promise = ran_promise g.N.Shelf g.S.Sink g.D.Disk job c.in-Ok.script shelf mid now out out_now c.args.disk disk answer
    (record { read = c.in-Ok.ensures.read; stays = c.in-Ok.ensures.stays; asked = c.in-Ok.ensures.asked }) ran in
    let Disk : _ → Type 0 = λ x. KeepsPromise g.N.Shelf g.S.Sink g.D.Disk job shelf now out out_now c.args.disk x (run_end answer) in
    let Fault : Option TopFault → Type 0 = λ x. KeepsPromise g.N.Shelf g.S.Sink g.D.Disk job shelf now out out_now c.args.disk c.ended.result.disk x in
    subst Fault (sym c.ended.ensures.fault) (subst Disk (sym c.ended.ensures.disk) promise)

pub returns-in-Err-clause-promise : goal.returns-in-Err-clause-promise
returns-in-Err-clause-promise g c =
    let job = c.args.job.now in
    let shelf = c.args.shelf.now in
    let now = c.script_named.new.shelf in
    let out = c.args.out.now in
    let promise = unread_promise g.N.Shelf g.S.Sink g.D.Disk job shelf now out c.args.disk c.in-Err.fault c.in-Err.ensures.refused c.in-Err.ensures.fault c.in-Err.ensures.told c.in-Err.ensures.asked in
    let Disk : _ → Type 0 = λ x. KeepsPromise g.N.Shelf g.S.Sink g.D.Disk job shelf now out out c.args.disk x (Some c.in-Err.fault) in
    let Fault : Option TopFault → Type 0 = λ x. KeepsPromise g.N.Shelf g.S.Sink g.D.Disk job shelf now out out c.args.disk c.stopped.result.disk x in
    subst Fault (sym c.stopped.ensures.fault) (subst Disk (sym c.stopped.ensures.disk) promise)

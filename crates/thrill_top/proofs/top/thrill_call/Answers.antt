use Rattle.std.proofs.Common.{Option, Some, sym, ap, ◌∙◌, subst}
use Rattle.job_words.specs.declared.fault.TopFault.{TopFault}
use Rattle.job_words.specs.declared.fault.TopFault.TheVariants as faults
use Rattle.thrill_top.specs.Promise.{KeepsPromise}
use Rattle.thrill_top.proofs.UnreadLemmas.{nothing_kept}
use Rattle.thrill_top.proofs.top.thrill_call.Goals as goal

pub returns-in-Err-clause-run : goal.returns-in-Err-clause-run
returns-in-Err-clause-run g c = λ job means.
    let shelf = c.args.shelf.now in
    let out = c.args.out.now in
    let Disk : _ → Type 0 = λ x. KeepsPromise g.N.Shelf g.S.Sink g.D.Disk job shelf shelf out out c.args.disk x (Some faults.NoMemory) in
    let Fault : Option TopFault → Type 0 = λ x. KeepsPromise g.N.Shelf g.S.Sink g.D.Disk job shelf shelf out out c.args.disk c.tell-in-Err.result.disk x in
    subst Fault (sym (ap (λ e. e.fault) c.tell-in-Err.ensures.same ∙ c.stopped-in-Err.ensures.fault))
    (subst Disk (sym (ap (λ e. e.disk) c.tell-in-Err.ensures.same ∙ c.stopped-in-Err.ensures.disk)) (nothing_kept g.N.Shelf g.S.Sink g.D.Disk job shelf out c.args.disk))

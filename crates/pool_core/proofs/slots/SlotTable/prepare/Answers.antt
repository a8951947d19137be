use Rattle.std.proofs.Common.{◌≡◌, false, sym, ap, ◌∙◌, subst}
use Rattle.std.proofs.lemmas.Result.{IfOk-weaker}
use Rattle.pool_core.specs.Numbers.{is_given, upcoming}
use Rattle.pool_core.specs.Slots.{Assigned, IsNobodys}
use Rattle.pool_core.proofs.Giving.{upcoming_free, same_given}
use Rattle.pool_core.proofs.slots.SlotTable.prepare.Goals as goal

pub returns-clause-free : goal.returns-clause-free
returns-clause-free c =
    let it = c.self.inside in
    let now = c.prepare.new.self in
    IfOk-weaker c.prepare.result (λ n. n ≡ upcoming now) (λ n. IsNobodys c.args.self.now.by_id n) (λ slot is.
    let free : is_given it.numbers slot ≡ false =
    sym (same_given now it.numbers slot c.prepare.ensures.same.0 c.prepare.ensures.same.1) ∙ ap (λ n. is_given now n) is ∙ upcoming_free now in
    subst (λ (assigned : Assigned). IsNobodys assigned.by_id slot) c.self.view_is (λ id there. let given = c.self.invariant.given id slot there in cc)) c.prepare.ensures.upcoming

use Rattle.std.proofs.Common.{◌+◌, ◌≤◌, refl, subst}
use Rattle.std.specs.Prelude.{IfOk, IfErr, OnErr, IfSome, IfNone}
use Rattle.dia_item.specs.Lent.{row_in_ref}
use Rattle.mix_stream.specs.Packets.{Rises}
use Rattle.mix_stream.specs.Reading.{Reading, IsDone, IsNext, IsSame, Drains, RefusesStream, pins}
use Rattle.cat_stream.proofs.Ordered.{ordered}
use Rattle.cat_stream.proofs.cat_reader.CatReader.next.Goals as goal

pub returns : goal.returns
returns g c =
    let a = c.args.hand.now in
    let b = c.next.new.hand in
    let old : Reading = c.args.self.now in
    let new : Reading = c.next.follows.lender-at-none in
    let is = c.self.view_is in
    let After : Reading → Type 0 = λ r.
    IfOk c.next.result (λ o. IfSome o (λ row. IsNext a.pool new.from (row_in_ref row) r new) × IfNone o (IsDone new × IsSame a.pool r new))
    × OnErr c.next.result (IsSame a.pool r new) × (Rises r.from r.packets → Rises new.from new.packets) × Drains a b r new in
    let h : After old = subst After is c.next.follows.holds-at-none in
    let Refused : Reading → Type 0 = λ r. IfErr c.next.result (λ e. RefusesStream a b r e) in
    let Room : Reading → Type 0 = λ r. a.permits + pins r ≤ b.permits + 1 in
    let rises = subst (λ (r : Reading). Rises r.from r.packets) is c.self.invariant in (
      (refl, λ _. tt, (ordered row_in_ref c.next.result a.pool old new (IsDone new × IsSame a.pool old new) rises h.0, h.1, h.3)),
      record { refused = subst Refused is c.next.ensures.refused; room = subst Room is c.next.ensures.room; follows = c.next.ensures.follows; after = tt },
    )

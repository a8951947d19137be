use Rattle.std.proofs.Common.{ℕ, [], arith, refl, subst}
use Rattle.dia_edge.proofs.Results.{IfOk-map}
use Rattle.dia_item.specs.KindList.{kind_list}
use Rattle.scatter.specs.Stocks.{lines_of}
use Rattle.scatter.proofs.Hands.{follow_refl}
use Rattle.dealing.specs.Operands.{operands_in, arriving_all}
use Rattle.dealing.specs.Deals.{IsDealt}
use Rattle.dealing.proofs.First.{none_used}
use Rattle.dealing.proofs.Held.{none_come, none_own}
use Rattle.dealing.proofs.Composed.{dealt_all}
use Rattle.dealing.proofs.round.Round.deal.Goals as goal

pub returns-in_default-clause-left : goal.returns-in_default-clause-left
returns-in_default-clause-left g c = none_used (lines_of c.args.stock.now) (operands_in c.args.self.operands.now)

pub returns-in_default-clause-follows : goal.returns-in_default-clause-follows
returns-in_default-clause-follows g c = follow_refl c.args.hands.now.items

pub deal_rest-requires-clause-pools : goal.deal_rest-requires-clause-pools
deal_rest-requires-clause-pools g c = λ κs lives.
    let len = c.in-Ok.ensures.len in
    let a = c.in-Ok.empty.ok in
    let b = c.args.hands.now.ok in
    none_own c.args.hands.now.items c.in-Ok.empty.items (omega (arith, len, a, b)) c.in-Ok.ensures.none

pub returns-clause-shares : goal.returns-clause-shares
returns-clause-shares g c =
    let kinds = kind_list c.args.self.kinds in
    let workers = c.args.stock.now.workers in
    let rows = arriving_all (lines_of c.args.stock.now) (operands_in c.args.self.operands.now) in
    IfOk-map c.deal_rest.result _ _ (λ boxes d carried tells. dealt_all kinds c.args.self.total workers rows boxes.items
    (subst (λ (n : ℕ). IsDealt kinds c.args.self.total workers 0 n [] rows boxes.items) c.requires.total.0
    (d carried tells [] refl (none_come kinds c.in-Ok.empty.items c.in-Ok.ensures.none)))) c.deal_rest.ensures.dealt

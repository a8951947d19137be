use Rattle.std.proofs.Common.{◌≡◌, Vec, Global, true, length, sym, subst, arith}
use Rattle.std.proofs.lemmas.Grind.{common_steps}
use Rattle.std.proofs.lemmas.Slice.Zip.{AllZip-long}
use Rattle.std.proofs.lemmas.Result.{IfOk-weaker}
use Rattle.multiplexer.specs.declared.inbox.Inbox.{Inbox}
use Rattle.scatter.specs.Carrying.{SendsOwn}
use Rattle.scatter.specs.Stocks.{StockValue}
use Rattle.scatter.proofs.Mailing.{can_carry, mixes_carried}
use Rattle.scatter.proofs.Hands.{follow_refl}
use Rattle.scatter.proofs.stock.Stock.settle.Goals as goal

pub returns-in_err-boxes-clause-follows : goal.returns-in_err-boxes-clause-follows
returns-in_err-boxes-clause-follows g c = follow_refl c.args.hands.now.items

pub carry-requires-clause-own : goal.carry-requires-clause-own
carry-requires-clause-own g c = can_carry c.args.hands.now.items c.args.sends.items c.in_ok-boxes.boxes.items c.requires.own c.in_ok-boxes.ensures

pub carry-requires-clause-count : goal.carry-requires-clause-count
carry-requires-clause-count g c =
    let long = AllZip-long SendsOwn c.args.hands.now.items c.args.sends.items c.requires.own in
    let count : length c.in_ok-boxes.boxes.items ≡ length c.args.sends.items = c.in_ok-boxes.ensures.count in
    grind (arith, common_steps)

pub returns-clause-mixes : goal.returns-clause-mixes
returns-clause-mixes g c =
    let Told : StockValue g.row.X.Denot → Type 0 = λ s. g.X.Net.tells s.net ≡ true in
    IfOk-weaker c.carry.result _ _ (λ (now : Vec Inbox Global) carried told.
    mixes_carried c.args.hands.now.items c.args.sends.items c.in_ok-boxes.boxes.items now.items c.in_ok-boxes.ensures (carried (subst Told (sym c.self.view_is) told))) c.carry.ensures.carried

use Rattle.stock_tests.proofs.Posting.{last_hand}
use Rattle.stock_tests.proofs.stock.mail.pop_two.Goals as goal

pub returns : goal.returns
returns c = λ pool two.
    let last = last_hand pool c.args.hands.items c.pop.new.self.items c.in-Some.two two.own c.in-Some.ensures.items in
    let first = last_hand pool c.pop.new.self.items c.pop-2.new.self.items c.in-Some-pop.one last.1 c.in-Some-pop.ensures.items in
    (first.0, last.0)

use Rattle.std.proofs.Common.{◌≡◌, List, [], ◌∷◌, ◌++◌, ap, sym, subst, ◌∙◌, append_assoc}
use Rattle.std.specs.List.{AllZip}
use Rattle.multiplexer.specs.Sending.{SendValue}
use Rattle.multiplexer.specs.declared.inbox.Inbox.{Inbox}
use Rattle.scatter.specs.Carrying.{SendsOwn}
use Rattle.stock_tests.proofs.Posting.{posted_own, still_two, last_own}
use Rattle.stock_tests.proofs.stock.mail.settle_two.Goals as goal

pub settle-requires-clause-own : goal.settle-requires-clause-own
settle-requires-clause-own g c =
    let e = c.args.ends in
    let P : List SendValue → Type 0 = λ l. AllZip SendsOwn c.args.hands.now.items l in
    let is : c.in-Ok-vec.sends.items ≡ e.send_zero ∷ e.send_one ∷ [] = c.in-Ok-vec.ensures.items in
    subst P (sym is) (posted_own c.args.front.items e.send_zero e.send_one e.recv_zero e.recv_one c.args.hands.now.items c.requires)

pub returns-in_default-settle-clause-hands : goal.returns-in_default-settle-clause-hands
returns-in_default-settle-clause-hands g c = λ pool two. still_two pool c.args.hands.now.items c.settle.new.hands.items c.settle.ensures.follows two

pub returns-clause-hands : goal.returns-clause-hands
returns-clause-hands g c = λ pool two. still_two pool c.args.hands.now.items c.settle.new.hands.items c.settle.ensures.follows two

pub returns-clause-own : goal.returns-clause-own
returns-clause-own g c = λ pool two.
    let bs : List Inbox = c.pop-2.new.self.items in
    let x = c.in-Some-Some.zero in
    let y = c.in-Some-Some.one in
    let is : c.in-Ok-settle.boxes.items ≡ bs ++ x ∷ y ∷ [] = c.in-Some-Some.ensures.items ∙ ap (λ (l : List Inbox). l ++ y ∷ []) c.in-Some-Some.ensures'.items ∙ append_assoc bs (x ∷ []) (y ∷ []) in
    last_own pool c.args.hands.now.items c.settle.new.hands.items c.in-Ok-settle.boxes.items bs x y c.settle.ensures.follows c.in-Ok-settle.ensures.pools is two

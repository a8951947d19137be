use Rattle.std.proofs.Common.{◌≡◌, ◌∷◌, ◌++◌, List, [], rules, ap, ◌∙◌, append_assoc}
use Rattle.multiplexer.specs.Sending.{SendValue}
use Rattle.multiplexer.specs.Receiving.{RecvValue}
use Rattle.multiplexer.specs.Mails.{AreNewSends, AreNewRecvs}
use Rattle.stock_tests.proofs.Posting.{two_ends}
use Rattle.stock_tests.proofs.stock.mail.open_ends.Goals as goal

pub returns : goal.returns
returns c = λ pool.
    let mail = c.args.mail.now.mail in
    let sends : List SendValue = c.in-Ok.sends.items in
    let recvs : List RecvValue = c.in-Ok.recvs.items in
    let ss : List SendValue = c.pop-2.new.self.items in
    let rs : List RecvValue = c.pop-4.new.self.items in
    let a = c.in-Some-Some.send_zero in
    let b = c.in-Some-Some.send_one in
    let x = c.in-Some-Some-2.recv_zero in
    let y = c.in-Some-Some-2.recv_one in
    let new : AreNewSends mail sends × AreNewRecvs mail recvs = search rules in
    let is_s : sends ≡ ss ++ a ∷ b ∷ [] = c.in-Some-Some.ensures.items ∙ ap (λ (l : List SendValue). l ++ b ∷ []) c.in-Some-Some.ensures'.items ∙ append_assoc ss (a ∷ []) (b ∷ []) in
    let is_r : recvs ≡ rs ++ x ∷ y ∷ [] = c.in-Some-Some-2.ensures.items ∙ ap (λ (l : List RecvValue). l ++ y ∷ []) c.in-Some-Some-2.ensures'.items ∙ append_assoc rs (x ∷ []) (y ∷ []) in
    two_ends pool mail sends ss recvs rs a b x y c.requires.two new.0 new.1 is_s is_r

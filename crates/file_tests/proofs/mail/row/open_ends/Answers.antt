use Rattle.std.proofs.Common.{◌≡◌, ◌∷◌, ◌++◌, List, [], rules, ap, ◌∙◌, append_assoc}
use Rattle.multiplexer.specs.Sending.{SendValue}
use Rattle.multiplexer.specs.Receiving.{RecvValue}
use Rattle.multiplexer.specs.Mails.{AreNewSends, AreNewRecvs}
use Rattle.file_tests.proofs.Ends.{new_ends}
use Rattle.file_tests.proofs.mail.row.open_ends.Goals as goal

pub returns : goal.returns
returns c =
    let mail = c.args.mail.now.mail in
    let sends : List SendValue = c.in_ok-sends.sends.items in
    let recvs : List RecvValue = c.in_ok-sends.recvs.items in
    let ss : List SendValue = c.pop-2.new.self.items in
    let rs : List RecvValue = c.pop-4.new.self.items in
    let a = c.in_ok-send_zero.send_zero in
    let b = c.in_ok-send_one.send_one in
    let x = c.in_ok-recv_zero.recv_zero in
    let y = c.in_ok-recv_one.recv_one in
    let new : AreNewSends mail sends × AreNewRecvs mail recvs = search rules in
    let is_s : sends ≡ ss ++ a ∷ b ∷ [] = c.in_ok-send_one.ensures.items ∙ ap (λ (l : List SendValue). l ++ b ∷ []) c.in_ok-send_zero.ensures.items ∙ append_assoc ss (a ∷ []) (b ∷ []) in
    let is_r : recvs ≡ rs ++ x ∷ y ∷ [] = c.in_ok-recv_one.ensures.items ∙ ap (λ (l : List RecvValue). l ++ y ∷ []) c.in_ok-recv_zero.ensures.items ∙ append_assoc rs (x ∷ []) (y ∷ []) in
    new_ends mail sends ss recvs rs a b x y c.requires.two new.0 new.1 is_s is_r

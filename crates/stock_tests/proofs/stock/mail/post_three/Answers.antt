use Rattle.std.proofs.Common.{◌∙◌, sym}
use Rattle.stock_tests.proofs.stock.mail.post_three.Goals as goal

pub send_three-requires-clause-zero : goal.send_three-requires-clause-zero
send_three-requires-clause-zero g c =
    let e = c.in-Some.ensures c.args.one.now.pool in
    (e.mail, e.two, e.send_zero)

pub send_three-requires-clause-one : goal.send_three-requires-clause-one
send_three-requires-clause-one g c =
    let e = c.in-Some.ensures c.args.one.now.pool in
    (e.mail, e.two, e.send_one)

pub take_front-requires : goal.take_front-requires
take_front-requires g c =
    let e = c.in-Some.ensures c.args.one.now.pool in
    record { none = e.recv_one.taken_is }

pub returns-clause-ends : goal.returns-clause-ends
returns-clause-ends g c =
    let e = c.in-Some.ensures c.args.one.now.pool in
    let same = c.take_front.ensures.same in
    record {
      mail = e.mail;
      two = e.two;
      send_zero = c.send_three.ensures.zero e.mail e.send_zero;
      send_one = c.send_three.ensures.one e.mail e.send_one;
      recv_zero = e.recv_zero;
      recv_one = record { of_mail = same.0 ∙ e.recv_one.of_mail; rank_is = same.1 ∙ e.recv_one.rank_is; taken_is = sym c.in-Some-take_front.ensures.front };
    }

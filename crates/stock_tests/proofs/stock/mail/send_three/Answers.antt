use Rattle.std.proofs.Common.{◌≡◌, sym, arith}
use Rattle.stock_tests.proofs.Posting.{sender_in, has_room, may_be_more}
use Rattle.stock_tests.proofs.stock.mail.send_three.Goals as goal

pub send_byte-first-requires-clause-to : goal.send_byte-first-requires-clause-to
send_byte-first-requires-clause-to g c =
    let z = c.requires.zero in
    (has_room z.0 0 0 c.args.one.now.pool c.args.send_zero.now z.1 (omega arith) z.2).0

pub send_byte-first-requires-clause-few : goal.send_byte-first-requires-clause-few
send_byte-first-requires-clause-few g c =
    let z = c.requires.zero in
    (has_room z.0 0 0 c.args.one.now.pool c.args.send_zero.now z.1 (omega arith) z.2).1

pub send_byte-second-requires-clause-to : goal.send_byte-second-requires-clause-to
send_byte-second-requires-clause-to g c =
    let z = c.requires.zero in
    (has_room z.0 0 1 c.args.one.now.pool c.send_byte-first.new.send z.1 (omega arith) (c.send_byte-first.ensures.sender z.0 0 0 z.2)).0

pub send_byte-second-requires-clause-few : goal.send_byte-second-requires-clause-few
send_byte-second-requires-clause-few g c =
    let z = c.requires.zero in
    (has_room z.0 0 1 c.args.one.now.pool c.send_byte-first.new.send z.1 (omega arith) (c.send_byte-first.ensures.sender z.0 0 0 z.2)).1

pub send_byte-third-requires-clause-to : goal.send_byte-third-requires-clause-to
send_byte-third-requires-clause-to g c =
    let z = c.requires.one in
    (has_room z.0 1 0 c.args.one.now.pool c.args.send_one.now z.1 (omega arith) z.2).0

pub send_byte-third-requires-clause-few : goal.send_byte-third-requires-clause-few
send_byte-third-requires-clause-few g c =
    let z = c.requires.one in
    (has_room z.0 1 0 c.args.one.now.pool c.args.send_one.now z.1 (omega arith) z.2).1

pub returns-clause-zero : goal.returns-clause-zero
returns-clause-zero g c = λ mail is.
    let pool = c.args.one.now.pool in
    let mid = c.send_byte-first.new.hand.pool in
    let same : mid ≡ pool = c.send_byte-first.ensures.same.0 in
    let first = c.send_byte-first.ensures.sender mail 0 0 is in
    let second = c.send_byte-second.ensures.sender mail 0 1 (sender_in mail 0 1 pool mid c.send_byte-first.new.send same first) in
    sender_in mail 0 2 mid pool c.send_byte-second.new.send (sym same) second

pub returns-clause-one : goal.returns-clause-one
returns-clause-one g c = λ mail is.
    let pool = c.args.one.now.pool in
    let other = c.args.two.now.pool in
    let same : other ≡ pool = c.requires.pool in
    let third = c.send_byte-third.ensures.sender mail 1 0 (sender_in mail 1 0 pool other c.args.send_one.now same is) in
    sender_in mail 1 2 other pool c.send_byte-third.new.send (sym same) (may_be_more mail 1 1 other c.send_byte-third.new.send third)

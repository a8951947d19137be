use Rattle.std.proofs.Common.{◌≡◌, length, take, arith}
use Rattle.std.proofs.lemmas.List.{length-take-le}
use Rattle.dia_lines.proofs.InputLemmas.{reading_more, reading_cut, reading_past, own_piece}
use Rattle.dia_lines.proofs.input.take_piece.Goals as goal

pub returns-then-total-eq-LONGEST_INPUT-clause-refused : goal.returns-then-total-eq-LONGEST_INPUT-clause-refused
returns-then-total-eq-LONGEST_INPUT-clause-refused g c = λ began all reading.
    let len : length (take c.in-Ok.n c.read.new.into) ≡ c.in-Ok.n = length-take-le c.in-Ok.n c.read.new.into c.in-Ok.ensures.count in
    reading_past g.T.LineTaker all (g.N.Shelf.left c.args.shelf.now) (g.N.Shelf.left c.read.new.self) began c.args.taker.now c.args.cutter.now c.args.desk.now c.args.desk.now
    c.args.total _ reading c.if-total-eq-LONGEST_INPUT.true c.in-Ok.ensures.prefix (omega (arith, c.in-Ok.n-test)) (omega arith)

pub returns-in-Ok-take-clause-ok : goal.returns-in-Ok-take-clause-ok
returns-in-Ok-take-clause-ok g c = λ began all reading.
    reading_more g.T.LineTaker all (g.N.Shelf.left c.args.shelf.now) (g.N.Shelf.left c.read.new.self) began c.args.taker.now c.take.new.taker c.args.cutter.now c.take.new.self
    c.args.total c.in-Ok.n c.split_at.result.0.now reading (rw c.split_at.ensures.front c.in-Ok.ensures.prefix) c.split_at.ensures.front_len c.in-Ok-take.ensures.ok

pub returns-in-Err-take-clause-refused : goal.returns-in-Err-take-clause-refused
returns-in-Err-take-clause-refused g c = λ began all reading.
    let most = c.room_after-room.ensures.most in
    let room : length (take c.room_after-room.result c.args.buffer.now) ≡ c.room_after-room.result = length-take-le c.room_after-room.result c.args.buffer.now (omega arith) in
    rw c.input_err.ensures
    (reading_cut g.T.LineTaker c.in-Err-take.e all (g.N.Shelf.left c.args.shelf.now) (g.N.Shelf.left c.read.new.self) began c.args.taker.now c.take.new.taker c.args.desk.now
    c.take.new.desk c.args.cutter.now c.args.total c.split_at.result.0.now reading (rw c.split_at.ensures.front c.in-Ok.ensures.prefix)
    (omega (arith, c.split_at.ensures.front_len, c.in-Ok.ensures.count, c.room_after-room.ensures.within)) c.in-Err-take.ensures.refused)

pub returns-in-Err-take-clause-own : goal.returns-in-Err-take-clause-own
returns-in-Err-take-clause-own g c =
    rw c.input_err.ensures (own_piece g.T.LineTaker c.args.desk.now c.take.new.taker c.take.new.desk c.in-Err-take.e c.in-Err-take.ensures.own)

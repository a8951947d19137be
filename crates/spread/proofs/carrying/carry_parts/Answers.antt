use Rattle.std.proofs.Common.{◌≡◌, ◌<◌, true, List, length, arith}
use Rattle.std.specs.Prelude.{All, slice_set}
use Rattle.std.specs.List.{AllZip}
use Rattle.row_defs.specs.declared.kind.Kind.{Kind}
use Rattle.dia_file.specs.Cuts.{rows_of_files}
use Rattle.scatter.specs.Carrying.{AreForHand, AreMixesOnBytes}
use Rattle.scatter.specs.Lines.{HasKinds}
use Rattle.scatter.proofs.Hands.{follow_refl, follow_count}
use Rattle.scatter.proofs.Threes.{zip_long}
use Rattle.sent_mail.proofs.Mailed.{none_taken}
use Rattle.spread.specs.Dealing.{IsDealtOut}
use Rattle.spread.proofs.Carried.{first_at, lanes_one, silent_one, all_ends, sends_own, dealt_out, ok_both}
use Rattle.spread.proofs.carrying.carry_parts.Goals as goal

pub returns-in_default-clause-follows : goal.returns-in_default-clause-follows
returns-in_default-clause-follows g c = follow_refl c.args.hands.now.items

pub returns-in_default-send_parts-clause-follows : goal.returns-in_default-send_parts-clause-follows
returns-in_default-send_parts-clause-follows g c = follow_refl c.args.hands.now.items

pub send_parts-requires-clause-count : goal.send_parts-requires-clause-count
send_parts-requires-clause-count g c =
    let sends = c.in-Ok.sends.items in
    let new = c.in-Ok.ensures.0 in
    let count = new.count in
    let mail = c.requires.mail in
    let long = c.requires.long in
    let some : 0 < length sends = let s = c.requires.some in omega (arith, count, mail, s) in
    let lanes = lanes_one c.args.mail.now.mail sends 0 c.index_mut.result.now new (first_at sends c.index_mut.result.now c.index_mut.ensures.value some) in
    (omega (arith, lanes.0, mail, long.0, long.1), omega (arith, lanes.1, mail, long.0, long.1))

pub send_parts-requires-clause-none : goal.send_parts-requires-clause-none
send_parts-requires-clause-none g c =
    let sends = c.in-Ok.sends.items in
    let new = c.in-Ok.ensures.0 in
    let count = new.count in
    let some : 0 < length sends = let s = c.requires.some in let mail = c.requires.mail in omega (arith, count, mail, s) in
    silent_one c.args.mail.now.mail sends 0 c.index_mut.result.now new (first_at sends c.index_mut.result.now c.index_mut.ensures.value some)

pub settle_sent-requires-clause-none : goal.settle_sent-requires-clause-none
settle_sent-requires-clause-none g c = none_taken c.args.mail.now.mail c.in-Ok.recvs.items c.in-Ok.ensures.1

pub settle_sent-requires-clause-ends : goal.settle_sent-requires-clause-ends
settle_sent-requires-clause-ends g c =
    let sends = c.in-Ok.sends.items in
    let new = c.in-Ok.ensures.0 in
    let count = new.count in
    let some : 0 < length sends = let s = c.requires.some in let mail = c.requires.mail in omega (arith, count, mail, s) in
    let sent = c.in-Ok-send_parts.ensures in
    all_ends c.args.mail.now.mail sends c.in-Ok.recvs.items c.index_mut.result.now c.send_parts.new.send new c.in-Ok.ensures.1
    (first_at sends c.index_mut.result.now c.index_mut.ensures.value some) sent.mail sent.sender

pub settle_sent-requires-clause-own : goal.settle_sent-requires-clause-own
settle_sent-requires-clause-own g c =
    let sends = c.in-Ok.sends.items in
    let new = c.in-Ok.ensures.0 in
    let count = new.count in
    let mail = c.requires.mail in
    let some : 0 < length sends = let s = c.requires.some in omega (arith, count, mail, s) in
    let long : length c.args.hands.now.items ≡ length sends = omega (arith, count, mail) in
    sends_own c.args.mail.now.mail sends c.args.hands.now.items c.args.parts.items c.index_mut.result.now c.send_parts.new.send new long
    (first_at sends c.index_mut.result.now c.index_mut.ensures.value some) c.requires.own c.in-Ok-send_parts.ensures

pub returns-clause-dealt : goal.returns-clause-dealt
returns-clause-dealt g c =
    let sends = c.in-Ok.sends.items in
    let new = c.in-Ok.ensures.0 in
    let count = new.count in
    let mail = c.requires.mail in
    let hands = c.args.hands.now.items in
    let end = c.settle_sent.new.hands.items in
    let parts = c.args.parts.items in
    let carries = g.X.Net.tells c.args.stock.now.net in
    let some : 0 < length sends = let s = c.requires.some in omega (arith, count, mail, s) in
    let at = first_at sends c.index_mut.result.now c.index_mut.ensures.value some in
    let later = follow_count hands end c.settle_sent.ensures.follows in
    let want = c.requires.long in
    ok_both c.settle_sent.result (λ boxes. AllZip AreForHand end boxes.items) (λ boxes. carries ≡ true → AreMixesOnBytes hands (slice_set sends 0 c.send_parts.new.send) boxes.items)
    (λ boxes. (kinds : List Kind) → All (HasKinds kinds) parts → IsDealtOut kinds (rows_of_files parts) carries hands boxes.items)
    (λ boxes own mixes kinds are.
    let same = zip_long AreForHand end boxes.items own in
    let long : length boxes.items ≡ length parts = omega (arith, same, later, want.0, want.1) in
    dealt_out carries kinds c.args.mail.now.mail sends hands parts c.index_mut.result.now c.send_parts.new.send boxes.items new at c.in-Ok-send_parts.ensures long are mixes)
    c.settle_sent.ensures.pools c.settle_sent.ensures.mixes

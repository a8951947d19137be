use denote.Param.Send.{sendable}
use Rattle.std.proofs.Crossing.{crosses}
use Rattle.std.proofs.Common.{◌≡◌, length, refl, arith}
use Rattle.block_pool.specs.Workers.{new_pool}
use Rattle.dia_item.specs.KindList.{kind_list}
use Rattle.scatter.proofs.Hands.{follow_refl}
use Rattle.exchange_tests.specs.declared.receiving.keep.Keep.{Keep}
use Rattle.arrivals.proofs.Crossing.{reader_send}
use Rattle.exchange_tests.proofs.Boxed.{for_hands, can_take}
use Rattle.exchange_tests.proofs.receiving.receive.Goals as goal

pub begin-begun-requires : goal.begin-begun-requires
begin-begun-requires g c = λ k.
    let pool = new_pool c.args.pool.now 28 4096 in
    let hands = c.args.hands.now.items in
    let xs = c.args.boxes.items in
    let ss = c.args.sinks.now.items in
    let long = c.requires.len in
    let boxes : length hands ≡ length xs = let m = long.0 in let n = long.1 in omega arith in
    let sinks : length ss ≡ length hands = let m = long.0 in let n = long.2 in omega arith in (
      (refl, tt),
      (
        for_hands pool hands xs c.requires.hands c.requires.own boxes,
        (
          record {
            serves = λ s a b same more is. tt;
            held = λ s a b. omega arith;
            follows = λ a b p. p;
            followed = λ a b p. p;
          },
          can_take _ (kind_list c.one.result) (λ (s : Keep). s.shut) (λ s. c.one.ensures) (λ s p. p) (λ s a. tt) pool ss hands c.requires.open c.requires.hands sinks,
        ),
      ),
    )

pub returns-in-Err-clause-follows : goal.returns-in-Err-clause-follows
returns-in-Err-clause-follows g c = follow_refl c.args.hands.now.items

pub run_hands-answer-requires-send-W : goal.run_hands-answer-requires-send-W
run_hands-answer-requires-send-W g c κs within = search (sendable, crosses, reader_send) depth 60 fits 100000

pub finish-requires : goal.finish-requires
finish-requires g c = λ k.
    let b = c.in-Ok.ensures.begun in (
      (refl, tt),
      (
        record { works = b.works; own = b.own; room = b.room; rests = b.rests },
        (
          rw (c.in-Ok.ensures.began, c.in-Ok.ensures.hands) c.run_hands-answer.ensures.all,
          (c.run_hands-answer.ensures.done, rw c.in-Ok.ensures.hands c.run_hands-answer.ensures.faulted),
        ),
      ),
    )

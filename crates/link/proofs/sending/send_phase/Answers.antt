use denote.Param.Send.{sendable}
use Rattle.std.proofs.Crossing.{crosses}
use Rattle.std.proofs.Common.{◌≡◌, length, refl, arith}
use Rattle.dia_item.specs.KindList.{kind_list}
use Rattle.exchange.specs.Serving.{Stays, stays_same}
use Rattle.multiplexer.specs.contracts.post.SendEndPost.TheImpl as post
use Rattle.scatter.proofs.Hands.{follow_refl}
use Rattle.link.proofs.Crossing.{send_end_send, dealer_send, sending_send}
use Rattle.link.proofs.Senders.{can_take, rests}
use Rattle.link.proofs.Ends.{zip_refl}
use Rattle.link.proofs.sending.send_phase.Goals as goal

pub begin-requires : goal.begin-requires
begin-requires g c = λ k.
    let to = kind_list c.args.operand.now.kinds in
    let long : length c.args.dealers.now.items ≡ length c.args.hands.now.items = let n = c.requires.long in omega arith in (
      (refl, tt),
      (
        c.requires.long,
        (
          c.requires.root,
          (
            c.requires.own,
            (
              record {
                serves = λ s a b same more is. rests post.ghosts s a b same more is;
                held = λ s a b. omega arith;
                follows = λ a b p. p;
                followed = λ a b p. p;
              },
              (to, c.requires.sound, can_take post.ghosts _ _ to c.args.stock.now.workers _ (λ s p. p) (λ s p. p) (λ s d p. p) c.args.dealers.now.items c.args.hands.now.items long c.requires.ready c.requires.permits),
            ),
          ),
        ),
      ),
    )

pub finish-requires : goal.finish-requires
finish-requires g c = λ k.
    let b = c.in-Ok.ensures.begun in (
      (refl, tt),
      (
        record {
          works = b.works;
          ops = b.ops;
          feeds = b.feeds;
          new = b.new;
          own = b.own;
          room = b.room;
          rests = b.rests;
          had = b.had;
          fed = b.fed;
          lent = b.lent;
        },
        (
          rw (c.in-Ok.ensures.began, c.in-Ok.ensures.hands) c.run_hands-answer.ensures.all,
          (c.run_hands-answer.ensures.done, rw c.in-Ok.ensures.hands c.run_hands-answer.ensures.faulted),
        ),
      ),
    )

pub returns-in-Err-clause-follows : goal.returns-in-Err-clause-follows
returns-in-Err-clause-follows g c = follow_refl c.args.hands.now.items

pub returns-in-Err-clause-stays : goal.returns-in-Err-clause-stays
returns-in-Err-clause-stays g c = rw c.in-Err.ensures.same_sinks (zip_refl (Stays post.ghosts) (stays_same post.ghosts) c.args.dealers.now.items)

pub run_hands-answer-requires-send-W : goal.run_hands-answer-requires-send-W
run_hands-answer-requires-send-W g c κs within = search (sendable, crosses, sending_send, dealer_send, send_end_send) depth 80 fits 300000

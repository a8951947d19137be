use denote.Param.Send.{sendable}
use Rattle.std.proofs.Crossing.{crosses}
use Rattle.feed_crossing.proofs.Crossing.{feed_send}
use Rattle.atomic_table.proofs.badge.Badge.TheSendSync as badge
use Rattle.std.proofs.Common.{◌≡◌, length, refl, arith}
use Rattle.dia_item.specs.KindList.{kind_list}
use Rattle.scatter.proofs.Hands.{follow_refl}
use Rattle.sink_files.proofs.Lists.{keep_refl}
use Rattle.sink_files.proofs.Taking.{can_take, fresh_long}
use Rattle.place_node.proofs.caching.place_phase.Goals as goal

pub begin-requires : goal.begin-requires
begin-requires g c = λ k.
    let to = kind_list c.args.operand.now.kinds in
    let fresh = c.requires.fresh in
    let long : length c.args.sinks.now.items ≡ length c.args.hands.now.items = fresh_long to c.args.sinks.now.items c.args.hands.now.items fresh in (
      (refl, tt),
      (
        (c.requires.long, let n = c.requires.long in omega arith),
        (
          c.requires.root,
          (
            c.requires.own,
            (
              record {
                serves = λ s a b same more is. record { own = rw same is.own; permit = let p = is.permit in omega arith };
                held = λ s a b. omega arith;
                follows = λ a b p. p;
                followed = λ a b p. p;
              },
              (to, c.requires.sound, can_take _ (λ s kinds p. p) (λ s p. p) (λ s d p. p) to c.args.sinks.now.items c.args.hands.now.items fresh c.requires.permits),
            ),
          ),
        ),
      ),
    )

pub finish-requires : goal.finish-requires
finish-requires g c = λ k.
    let b = c.in-Ok.ensures.begun in (
      (refl, tt),
      (
        record {
          works = b.works;
          ops = b.ops;
          feeds = b.feeds;
          new = b.new;
          own = b.own;
          room = b.room;
          rests = b.rests;
          had = b.had;
          fed = b.fed;
          lent = b.lent;
        },
        (
          rw (c.in-Ok.ensures.began, c.in-Ok.ensures.hands) c.run_hands-answer.ensures.all,
          (c.run_hands-answer.ensures.done, rw c.in-Ok.ensures.hands c.run_hands-answer.ensures.faulted),
        ),
      ),
    )

pub returns-in-Err-clause-follows : goal.returns-in-Err-clause-follows
returns-in-Err-clause-follows g c = follow_refl c.args.hands.now.items

pub returns-in-Err-clause-stays : goal.returns-in-Err-clause-stays
returns-in-Err-clause-stays g c = rw c.in-Err.ensures.same_sinks (keep_refl c.args.sinks.now.items)

pub run_hands-answer-requires-send-W : goal.run_hands-answer-requires-send-W
run_hands-answer-requires-send-W g c κs within = search (sendable, crosses, feed_send, badge.the_send) depth 60 fits 100000

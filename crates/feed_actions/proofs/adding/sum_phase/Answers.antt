use denote.Param.Send.{sendable}
use Rattle.std.proofs.Crossing.{crosses}
use Rattle.feed_crossing.proofs.Crossing.{feed_send}
use Rattle.std.proofs.Common.{◌≡◌, length, Some, refl, sym, subst, arith}
use Rattle.std.specs.Prelude.{slice_get}
use Rattle.row_defs.specs.declared.kind.Kind.TheVariants.{Int}
use Rattle.feed_actions.specs.Adding.{IsFreshSummer}
use Rattle.scatter.proofs.Hands.{follow_refl}
use Rattle.feed_actions.proofs.Counts.{can_take}
use Rattle.feed_actions.proofs.adding.sum_phase.Goals as goal

pub begin-requires : goal.begin-requires
begin-requires g c = λ k.
    let sound = c.requires.sound in
    let long : length c.args.summers.now.items ≡ length c.args.hands.now.items = let n = c.requires.long in omega arith in (
      (refl, tt),
      (
        c.requires.long,
        (
          c.requires.root,
          (
            c.requires.own,
            (
              record {
                serves = λ s a b same more k. tt;
                held = λ s a b. omega arith;
                follows = λ a b p. p;
                followed = λ a b p. p;
              },
              (sound.0, sound.1, can_take _ (IsFreshSummer c.args.column) sound.0 (λ s is. subst (λ k. slice_get sound.0 k ≡ Some Int) (sym is.is_column) sound.2) (λ s is. is.is_open) (λ s a. tt) c.args.summers.now.items c.args.hands.now.items long c.requires.fresh c.requires.permits),
            ),
          ),
        ),
      ),
    )

pub finish-requires : goal.finish-requires
finish-requires g c = λ k.
    let b = c.in-Ok.ensures.begun in (
      (refl, tt),
      (
        record {
          works = b.works;
          ops = b.ops;
          feeds = b.feeds;
          new = b.new;
          own = b.own;
          room = b.room;
          rests = b.rests;
          had = b.had;
          fed = b.fed;
          lent = b.lent;
        },
        (
          rw (c.in-Ok.ensures.began, c.in-Ok.ensures.hands) c.run_hands-answer.ensures.all,
          (c.run_hands-answer.ensures.done, rw c.in-Ok.ensures.hands c.run_hands-answer.ensures.faulted),
        ),
      ),
    )

pub returns-in-Err-clause-follows : goal.returns-in-Err-clause-follows
returns-in-Err-clause-follows g c = follow_refl c.args.hands.now.items

pub run_hands-answer-requires-send-W : goal.run_hands-answer-requires-send-W
run_hands-answer-requires-send-W g c κs within = search (sendable, crosses, feed_send) depth 60 fits 100000

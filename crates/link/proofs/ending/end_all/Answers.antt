use Rattle.multiplexer.specs.contracts.post.SendEndPost.TheImpl as post
use Rattle.std.proofs.Common.{rules, ◌≡◌, ◌∷◌, length, drop, refl, ap, arith, subst}
use Rattle.std.proofs.lemmas.Grind.{common_steps}
use Rattle.std.specs.List.{AllZip}
use Rattle.std.specs.Vec.Iter.{into_iter_items}
use Rattle.exchange.specs.Serving.{IsServed}
use Rattle.scatter.proofs.Threes.{zip_long}
use Rattle.link.proofs.Ends.{gave_all, ended_none, ended_more, ended_all}
use Rattle.link.proofs.ending.end_all.Goals as goal
use Rattle.lent_step.proofs.Lists.{yield_more, one_longer, drop_next, take_next}

pub loop-dealer-init : goal.loop-dealer-init
loop-dealer-init g c = record {
  rest = search rules;
  left = search rules;
  own = search rules;
  done = ended_none post.ghosts c.args.room.posts.items c.args.room.hands.items (let n = c.requires.room.no_posts in omega arith) (let n = c.requires.room.no_hands in omega arith);
  hand_count = search rules;
  hand_room = refl;
  post_room = refl;
}

pub loop-dealer-preserved : goal.loop-dealer-preserved
loop-dealer-preserved g c =
    let i = c.loop-dealer.invariant in
    let step : into_iter_items c.loop-dealer.dealer-iterator ≡ c.in-Some.dealer ∷ into_iter_items c.next.new.self = search rules in
    let n = length c.loop-dealer.yielded in
    let here : into_iter_items c.loop-dealer.hands ≡ c.in-Some-next.hand ∷ into_iter_items c.next-in-loop-dealer.new.self = search rules in
    let next : drop n c.args.hands.items ≡ c.in-Some-next.hand ∷ into_iter_items c.next-in-loop-dealer.new.self = search rules in
    let more = one_longer c.loop-dealer.yielded c.in-Some.dealer in
    let own : AllZip (IsServed post.ghosts) (c.in-Some.dealer ∷ into_iter_items c.next.new.self) (c.in-Some-next.hand ∷ into_iter_items c.next-in-loop-dealer.new.self) =
    subst (λ hs. AllZip (IsServed post.ghosts) (c.in-Some.dealer ∷ into_iter_items c.next.new.self) hs) here (subst (λ ss. AllZip (IsServed post.ghosts) ss (into_iter_items c.loop-dealer.hands)) step i.own) in
    record {
      rest = yield_more c.loop-dealer.yielded _ _ c.args.dealers.items c.in-Some.dealer step i.rest;
      left = rw more (drop_next n c.args.hands.items c.in-Some-next.hand _ next);
      own = own.1;
      done = rw (c.push_reserved.ensures.items, more, take_next n c.args.hands.items c.in-Some-next.hand _ next)
          (ended_more post.ghosts _ _ _ _ _ c.in-Some.dealer c.in-Some-next.hand c.end_one.new.hand i.done c.end_one.ensures.follows c.end_one.ensures.end);
      hand_count = grind (arith, common_steps);
      hand_room = search rules;
      post_room = search rules;
    }

pub returns-clause-follows : goal.returns-clause-follows
returns-clause-follows g c =
    let is : c.loop-dealer.yielded ≡ c.args.dealers.items = gave_all c.loop-dealer.yielded (into_iter_items c.loop-dealer.dealer-iterator) c.args.dealers.items (let n = c.in-None.ensures.steps.0 in let ok = c.loop-dealer.dealer-iterator.rest.ok in omega (arith, n, ok)) c.loop-dealer.invariant.rest in
    (ended_all post.ghosts c.loop-dealer.yielded c.args.dealers.items c.args.hands.items c.loop-dealer.posts.items c.loop-dealer.ended.items c.loop-dealer.invariant.done is
    (zip_long (IsServed post.ghosts) c.args.dealers.items c.args.hands.items c.requires.own)).follows

pub returns-clause-sent : goal.returns-clause-sent
returns-clause-sent g c = λ e.
    let is : c.loop-dealer.yielded ≡ c.args.dealers.items = gave_all c.loop-dealer.yielded (into_iter_items c.loop-dealer.dealer-iterator) c.args.dealers.items (let n = c.in-None.ensures.steps.0 in let ok = c.loop-dealer.dealer-iterator.rest.ok in omega (arith, n, ok)) c.loop-dealer.invariant.rest in
    let n = c.loop-dealer.invariant.hand_count in
    let long = ap length is in
    (ended_all post.ghosts c.loop-dealer.yielded c.args.dealers.items c.args.hands.items c.loop-dealer.posts.items c.loop-dealer.ended.items c.loop-dealer.invariant.done is
    (zip_long (IsServed post.ghosts) c.args.dealers.items c.args.hands.items c.requires.own)).sent (omega (arith, e, n, long))

pub returns-clause-freed : goal.returns-clause-freed
returns-clause-freed g c = λ e.
    let is : c.loop-dealer.yielded ≡ c.args.dealers.items = gave_all c.loop-dealer.yielded (into_iter_items c.loop-dealer.dealer-iterator) c.args.dealers.items (let n = c.in-None.ensures.steps.0 in let ok = c.loop-dealer.dealer-iterator.rest.ok in omega (arith, n, ok)) c.loop-dealer.invariant.rest in
    let n = c.loop-dealer.invariant.hand_count in
    let long = ap length is in
    (ended_all post.ghosts c.loop-dealer.yielded c.args.dealers.items c.args.hands.items c.loop-dealer.posts.items c.loop-dealer.ended.items c.loop-dealer.invariant.done is
    (zip_long (IsServed post.ghosts) c.args.dealers.items c.args.hands.items c.requires.own)).freed (omega (arith, e, n, long))

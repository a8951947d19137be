use Rattle.std.proofs.Common.{rules, ◌≡◌, ◌∷◌, length, vec_len, drop, arith}
use Rattle.std.proofs.lemmas.Grind.{common_steps}
use Rattle.std.specs.Vec.Iter.{into_iter_items}
use Rattle.dia_item.specs.KindList.{kind_list}
use Rattle.scatter.proofs.Threes.{three_more}
use Rattle.link.specs.Scattering.{IsFreshScatter}
use Rattle.link.proofs.Ends.{gave_all, fresh_all}
use Rattle.link.proofs.making.dealers_for.Goals as goal
use Rattle.lent_step.proofs.Lists.{yield_more, one_longer, drop_next, take_next}

pub loop-post-preserved : goal.loop-post-preserved
loop-post-preserved g c =
    let i = c.loop-post.invariant in
    let step : into_iter_items c.loop-post.post-iterator ≡ c.in-Some.post ∷ into_iter_items c.next.new.self = search rules in
    let n = length c.loop-post.yielded in
    let here : into_iter_items c.loop-post.routes ≡ c.in-Some-next.route ∷ into_iter_items c.next-in-loop-post.new.self = search rules in
    let next : drop n c.args.routes.items ≡ c.in-Some-next.route ∷ into_iter_items c.next-in-loop-post.new.self = search rules in
    let more = one_longer c.loop-post.yielded c.in-Some.post in
    let e = c.in_ok-scatter.ensures in
    record {
      rest = yield_more c.loop-post.yielded _ _ c.args.posts.items c.in-Some.post step i.rest;
      left = rw more (drop_next n c.args.routes.items c.in-Some-next.route _ next);
      fresh = rw (c.push_reserved.ensures.items, more, take_next n c.args.routes.items c.in-Some-next.route _ next)
          (three_more (IsFreshScatter g.P.Post (kind_list c.args.kinds) _) _ _ _ c.in-Some-next.route c.in-Some.post _ i.fresh
          (record { kinds_are = e.kinds; route_is = e.route; post_is = e.post.0; began_is = e.post.1; none = e.taken; frames_are = e.frames; is_open = e.is_open; serves = e.serves }));
      count = grind (arith, common_steps);
      room = search rules;
    }

pub returns : goal.returns
returns g c = record {
  fresh = fresh_all g.P.Post (kind_list c.args.kinds) c.args.routes.items c.loop-post.yielded c.args.posts.items c.loop-post.dealers.items _ (vec_len c.args.posts) c.loop-post.invariant.fresh
      (gave_all c.loop-post.yielded (into_iter_items c.loop-post.post-iterator) c.args.posts.items (let n = c.in-None.ensures.steps.0 in let ok = c.loop-post.post-iterator.rest.ok in omega (arith, n, ok)) c.loop-post.invariant.rest) (let n = c.requires.long in omega arith) (omega arith);
}

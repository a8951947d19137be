use Rattle.std.proofs.Common.{rules, ◌≡◌, ◌∷◌, length, drop, map, ap, ◌∙◌, arith}
use Rattle.std.proofs.lemmas.Grind.{common_steps}
use Rattle.std.specs.Vec.Iter.{into_iter_items}
use Rattle.lop_chain.specs.Chains.{chain_ops}
use Rattle.scatter.specs.Feeds.{part_feed}
use Rattle.scatter.proofs.Making.{next_ops, more_parts}
use Rattle.scatter.proofs.Rooted.{present}
use Rattle.scatter.proofs.feeding.part_feeds.Goals as goal
use Rattle.lent_step.proofs.Lists.{drop_next, yield_more, one_longer}

pub loop-part-preserved : goal.loop-part-preserved
loop-part-preserved c =
    let i = c.loop-part.invariant in
    let step : into_iter_items c.loop-part.part-iterator ≡ c.in-Some.part ∷ into_iter_items c.next.new.self = search rules in
    let n = length c.loop-part.yielded in
    let next : drop n c.args.chains.items ≡ c.in-Some-next.chain ∷ into_iter_items c.next-in-loop-part.new.self = search rules in
    let more = one_longer c.loop-part.yielded c.in-Some.part in
    record {
      rest = yield_more c.loop-part.yielded _ _ c.args.parts.items c.in-Some.part step i.rest;
      left = rw more (drop_next n c.args.chains.items c.in-Some-next.chain _ next);
      feeds = λ ops are.
          c.push_reserved.ensures.items
          ∙ more_parts c.args.last ops (chain_ops c.in-Some-next.chain) c.loop-part.feeds.items c.loop-part.yielded c.in-Some.part c.in-Some-part.file c.of_part.result (i.feeds ops are) c.in-Some-part.is
          (next_ops ops c.args.chains.items n c.in-Some-next.chain _ are next) c.of_part.ensures;
      count = grind (arith, common_steps);
      room = search rules;
    }

pub returns : goal.returns
returns c = λ ops are.
    let i = c.loop-part.invariant in
    let all : c.loop-part.yielded ≡ c.args.parts.items = grind (arith, common_steps) in
    i.feeds ops are ∙ ap (λ ps. map (part_feed c.args.last ops) (present ps)) all

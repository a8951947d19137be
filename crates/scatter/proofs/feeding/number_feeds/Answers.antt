use Rattle.std.proofs.Common.{rules, ◌≡◌, ◌<◌, ◌+◌, ◌∷◌, length, ◌∙◌, arith, vec_len}
use Rattle.std.proofs.lemmas.Grind.{common_steps}
use Rattle.std.specs.Vec.Iter.{into_iter_items}
use Rattle.lop_chain.specs.Chains.{chain_ops}
use Rattle.collective.specs.Shares.{share_start}
use Rattle.scatter.proofs.Making.{not_all, chain_at, more_numbers}
use Rattle.scatter.proofs.feeding.number_feeds.Goals as goal
use Rattle.lent_step.proofs.Lists.{yield_more, one_longer}

pub loop-chain-preserved : goal.loop-chain-preserved
loop-chain-preserved c =
    let i = c.loop-chain.invariant in
    let step : into_iter_items c.loop-chain.chain-iterator ≡ c.in-Some.chain ∷ into_iter_items c.next.new.self = search rules in
    let n = length c.loop-chain.yielded in
    let more = one_longer c.loop-chain.yielded c.in-Some.chain in
    let few : n < length c.args.chains.items = not_all c.loop-chain.yielded _ _ c.args.chains.items c.in-Some.chain step i.rest in
    let less : n < vec_len c.args.chains = omega arith in
    let start : c.share-next.result.0 ≡ share_start c.args.rows (vec_len c.args.chains) n = search rules in
    let end : c.share-next.result.1 ≡ share_start c.args.rows (vec_len c.args.chains) (n + 1) = search rules in
    record {
      rest = yield_more c.loop-chain.yielded _ _ c.args.chains.items c.in-Some.chain step i.rest;
      rank = grind (arith, common_steps);
      feeds = λ ops are.
          rw more
          (c.push_reserved.ensures.items
          ∙ more_numbers ops (chain_ops c.in-Some.chain) c.args.rows (vec_len c.args.chains) n c.share-next.result.0 c.share-next.result.1 c.loop-chain.feeds.items c.count.result (i.feeds ops are)
          (chain_at ops c.args.chains.items c.loop-chain.yielded _ _ c.in-Some.chain are step i.rest) c.count.ensures start end less);
      count = grind (arith, common_steps);
      room = search rules;
    }

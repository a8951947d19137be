use Rattle.std.proofs.Common.{rules, ◌≡◌, ◌∷◌, arith}
use Rattle.std.proofs.lemmas.Grind.{common_steps}
use Rattle.std.specs.Vec.Iter.{into_iter_items}
use Rattle.lent_step.proofs.Lists.{zip_more, yield_more}
use Rattle.script_run.proofs.pool.hands_for.Goals as goal

pub loop-pass-preserved : goal.loop-pass-preserved
loop-pass-preserved g c =
    let i = c.loop-pass.invariant in
    let step : into_iter_items c.loop-pass.pass-iterator ≡ (c.in-Some.pass, c.in-Some.permits) ∷ into_iter_items c.next.new.self = search rules in
    record {
      rest = yield_more c.loop-pass.yielded _ _ c.args.shares.items (c.in-Some.pass, c.in-Some.permits) step i.rest;
      hands = rw c.push_reserved.ensures.items (zip_more _ _ _ (c.in-Some.pass, c.in-Some.permits) _ i.hands (c.new.ensures.pool, c.new.ensures.permits));
      count = grind (arith, common_steps);
      room = search rules;
    }

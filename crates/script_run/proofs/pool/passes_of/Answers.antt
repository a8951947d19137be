use Rattle.std.proofs.Common.{rules, ◌≡◌, ◌∷◌, arith}
use Rattle.std.proofs.lemmas.Grind.{common_steps}
use Rattle.std.specs.Vec.Iter.{into_iter_items}
use Rattle.lent_step.proofs.Lists.{zip_more, yield_more}
use Rattle.script_run.proofs.pool.passes_of.Goals as goal

pub loop-hand-preserved : goal.loop-hand-preserved
loop-hand-preserved g c =
    let i = c.loop-hand.invariant in
    let step : into_iter_items c.loop-hand.hand-iterator ≡ c.in-Some.hand ∷ into_iter_items c.next.new.self = search rules in
    record {
      rest = yield_more c.loop-hand.yielded _ _ c.args.hands.items c.in-Some.hand step i.rest;
      passes = rw c.push_reserved.ensures.items (zip_more _ _ _ c.in-Some.hand _ i.passes (c.end-pass.ensures.pool.0, c.end-pass.ensures.notes));
      count = grind (arith, common_steps);
      room = search rules;
    }

use Rattle.std.proofs.Common.{rules, ◌≡◌, ℕ, [], ◌∷◌, subst, arith, length-append}
use Rattle.std.specs.Vec.Iter.{into_iter_items}
use Rattle.lent_step.proofs.Lists.{yield_more}
use Rattle.spread.specs.Dealing.{WentTo}
use Rattle.spread.proofs.BlocksSent.{sent_none, sent_more}
use Rattle.spread.proofs.dealing.send_parts.Goals as goal

pub loop-part-init : goal.loop-part-init
loop-part-init g c = record { rest = search rules; sent = sent_none c.args.send.now c.requires.none; rank = search rules }

pub loop-part-preserved : goal.loop-part-preserved
loop-part-preserved g c =
    let i = c.loop-part.invariant in
    let part = c.in-Some.part in
    let step : into_iter_items c.loop-part.part-iterator ≡ part ∷ into_iter_items c.next.new.self = search rules in
    let went = subst (λ (n : ℕ). WentTo n part.blocks c.loop-part.send c.send_part.new.send) i.rank c.in_ok-send_part.ensures.sent in
    let rank = i.rank in
    let longer = length-append c.loop-part.yielded (part ∷ []) in
    record {
      rest = yield_more c.loop-part.yielded _ _ c.args.parts.items part step i.rest;
      sent = sent_more c.loop-part.yielded part c.args.send.now c.loop-part.send c.send_part.new.send i.sent went c.in_ok-send_part.ensures.spelled;
      rank = omega (arith, rank, longer);
    }

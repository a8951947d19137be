use Rattle.std.proofs.Common.{rules, ◌≡◌, List, ◌∷◌, length, take, drop, ap, sym, ◌∙◌, arith, subst}
use Rattle.std.proofs.lemmas.List.{take_all}
use Rattle.std.proofs.lemmas.Grind.{common_steps}
use Rattle.std.specs.List.{AllZip}
use Rattle.std.specs.Vec.Iter.{into_iter_items}
use Rattle.block_pool.specs.Handles.{HandValue}
use Rattle.scatter.specs.Phases.{AllThree}
use Rattle.scatter.specs.Clearing.{IsPartIn, IsCleared}
use Rattle.scatter.proofs.Threes.{three_more, zip_long}
use Rattle.scatter.proofs.clearing.clear_parts.Goals as goal
use Rattle.lent_step.proofs.Lists.{take_next, drop_next, yield_more, one_longer}

pub loop-part-preserved : goal.loop-part-preserved
loop-part-preserved g c =
    let i = c.loop-part.invariant in
    let step : into_iter_items c.loop-part.part-iterator ≡ c.in-Some.part ∷ into_iter_items c.next.new.self = search rules in
    let n = length c.loop-part.yielded in
    let here : into_iter_items c.loop-part.hands ≡ c.in-Some-next.hand ∷ into_iter_items c.next-in-loop-part.new.self = search rules in
    let next : drop n c.args.hands.items ≡ c.in-Some-next.hand ∷ into_iter_items c.next-in-loop-part.new.self = search rules in
    let more = one_longer c.loop-part.yielded c.in-Some.part in
    let own : AllZip IsPartIn (c.in-Some-next.hand ∷ into_iter_items c.next-in-loop-part.new.self) (c.in-Some.part ∷ into_iter_items c.next.new.self) =
    subst (λ hs. AllZip IsPartIn hs (c.in-Some.part ∷ into_iter_items c.next.new.self)) here (subst (λ ps. AllZip IsPartIn (into_iter_items c.loop-part.hands) ps) step i.own) in
    record {
      rest = yield_more c.loop-part.yielded _ _ c.args.parts.items c.in-Some.part step i.rest;
      left = rw more (drop_next n c.args.hands.items c.in-Some-next.hand _ next);
      own = own.1;
      done = rw (c.push_reserved.ensures.items, more, take_next n c.args.hands.items c.in-Some-next.hand _ next)
          (three_more IsCleared _ _ _ c.in-Some.part c.in-Some-next.hand c.clear_one.new.hand i.done c.clear_one.ensures);
      hand_count = grind (arith, common_steps);
      hand_room = search rules;
    }

pub returns : goal.returns
returns g c =
    let i = c.loop-part.invariant in
    let seen : c.loop-part.yielded ≡ c.args.parts.items = grind (arith, common_steps) in
    let long = zip_long IsPartIn c.args.hands.items c.args.parts.items c.requires.own in
    let count : length c.loop-part.yielded ≡ length c.args.hands.items = ap length seen ∙ sym long in
    let whole : take (length c.loop-part.yielded) c.args.hands.items ≡ c.args.hands.items = take_all (length c.loop-part.yielded) c.args.hands.items (omega arith) in
    let P : List HandValue → Type 0 = λ hands. AllThree IsCleared c.loop-part.yielded hands c.loop-part.cleared.items in
    subst (λ parts. AllThree IsCleared parts c.args.hands.items c.loop-part.cleared.items) seen (subst P whole i.done)

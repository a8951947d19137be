use Rattle.std.proofs.Common.{rules, ◌≡◌, ◌∷◌, length, take, drop, arith, subst}
use Rattle.std.proofs.lemmas.Grind.{common_steps}
use Rattle.std.proofs.lemmas.Slice.Zip.{AllZip-long}
use Rattle.std.specs.List.{AllZip}
use Rattle.std.specs.Vec.Iter.{into_iter_items}
use Rattle.block_pool.specs.Handles.{Follows}
use Rattle.scatter.specs.Feeds.{FeedValue}
use Rattle.scatter.proofs.Threes.{map_push}
use Rattle.actions.specs.Printing.{CanPrint}
use Rattle.lent_step.proofs.Lists.{zip_more, take_next, drop_next, yield_more, one_longer}
use Rattle.actions.proofs.Grown.{printed_next, permits_next}
use Rattle.actions.proofs.feeds.print_feeds.Goals as goal

pub loop-feed-preserved : goal.loop-feed-preserved
loop-feed-preserved g c =
    let i = c.loop-feed.invariant in
    let step : into_iter_items c.loop-feed.feed-iterator ≡ c.in-Some.feed ∷ into_iter_items c.next.new.self = search rules in
    let n = length c.loop-feed.yielded in
    let here : into_iter_items c.loop-feed.hands ≡ c.in-Some-next.hand ∷ into_iter_items c.next-in-loop-feed.new.self = search rules in
    let next : drop n c.args.hands.items ≡ c.in-Some-next.hand ∷ into_iter_items c.next-in-loop-feed.new.self = search rules in
    let more = one_longer c.loop-feed.yielded c.in-Some.feed in
    let can : AllZip CanPrint (c.in-Some.feed ∷ into_iter_items c.next.new.self) (c.in-Some-next.hand ∷ into_iter_items c.next-in-loop-feed.new.self) =
    subst (λ hs. AllZip CanPrint (c.in-Some.feed ∷ into_iter_items c.next.new.self) hs) here (subst (λ fs. AllZip CanPrint fs (into_iter_items c.loop-feed.hands)) step i.can) in
    let before = take n c.args.hands.items in
    let after = take_next n c.args.hands.items c.in-Some-next.hand _ next in
    let ended = c.loop-feed.ended.items in
    record {
      rest = yield_more c.loop-feed.yielded _ _ c.args.feeds.items c.in-Some.feed step i.rest;
      left = rw more (drop_next n c.args.hands.items c.in-Some-next.hand _ next);
      can = can.1;
      prints = rw (c.push_reserved-in-loop-feed.ensures.items, more, after)
          (printed_next g.S.Sink c.loop-feed.yielded before ended c.in-Some.feed c.in-Some-next.hand c.print_next-file.new.hand c.args.out.now c.loop-feed.out c.print_next-file.new.out
          c.args.buffer.now c.loop-feed.buffer c.print_next-file.new.buffer c.loop-feed.answer c.print_next-file.result.1 i.prints c.print_next-file.ensures.prints c.print_next-file.ensures.skips
          (AllZip-long Follows before ended i.follow));
      follow = rw (c.push_reserved-in-loop-feed.ensures.items, more, after) (zip_more Follows before ended c.in-Some-next.hand c.print_next-file.new.hand i.follow c.print_next-file.ensures.follows);
      permits = rw (c.push_reserved-in-loop-feed.ensures.items, more, after)
          (permits_next c.loop-feed.out c.print_next-file.new.out c.loop-feed.buffer c.print_next-file.new.buffer c.loop-feed.answer c.print_next-file.result.1 before ended c.in-Some-next.hand
          c.print_next-file.new.hand i.permits c.print_next-file.ensures.permits c.print_next-file.ensures.skips);
      parts = rw (c.push_reserved.ensures.items, c.print_next-file.ensures.file) (map_push (λ (f : FeedValue). f.keeps) c.loop-feed.yielded c.in-Some.feed c.loop-feed.parts.items i.parts);
      hand_count = grind (arith, common_steps);
      part_count = grind (arith, common_steps);
      hand_room = search rules;
      part_room = search rules;
    }

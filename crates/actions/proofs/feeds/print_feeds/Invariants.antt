use Rattle.std.proofs.Common.{◌≡◌, ◌++◌, length, take, drop, map, vec_len, OnOk}
use Rattle.std.specs.Prelude.{vec_capacity}
use Rattle.std.specs.List.{AllZip}
use Rattle.std.specs.Vec.Iter.{into_iter_items}
use Rattle.block_pool.specs.Handles.{HandValue, Follows}
use Rattle.scatter.specs.Feeds.{FeedValue}
use Rattle.actions.specs.Printing.{rows_of_feeds, AreToldFeeds, CanPrint, HasPrinted}
use Rattle.actions.proofs.feeds.print_feeds.Given as goal

abbrev pub invariant-loop-feed : goal.invariant-loop-feed
invariant-loop-feed g l = record {
  rest : l.yielded ++ into_iter_items l.feed-iterator ≡ l.fn.feeds.items;
  left : into_iter_items l.hands ≡ drop (length l.yielded) l.fn.hands.items;
  can : AllZip CanPrint (into_iter_items l.feed-iterator) (into_iter_items l.hands);
  prints : HasPrinted g.S.Sink (AreToldFeeds l.yielded (take (length l.yielded) l.fn.hands.items)) (rows_of_feeds l.yielded) (take (length l.yielded) l.fn.hands.items)
      l.fn.out l.fn.buffer l.answer l.ended.items l.out l.buffer;
  follow : AllZip Follows (take (length l.yielded) l.fn.hands.items) l.ended.items;
  permits : OnOk l.answer (AllZip (λ (a b : HandValue). b.permits ≡ a.permits) (take (length l.yielded) l.fn.hands.items) l.ended.items);
  parts : l.parts.items ≡ map (λ (f : FeedValue). f.keeps) l.yielded;
  hand_count : vec_len l.ended ≡ length l.yielded;
  part_count : vec_len l.parts ≡ length l.yielded;
  hand_room : vec_capacity l.ended ≡ vec_capacity l.fn.printed.hands;
  part_room : vec_capacity l.parts ≡ vec_capacity l.fn.printed.parts;
}

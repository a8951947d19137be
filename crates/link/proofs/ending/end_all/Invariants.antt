use Rattle.multiplexer.specs.contracts.post.SendEndPost.TheImpl as post
use Rattle.std.proofs.Common.{◌≡◌, ◌++◌, length, take, drop, vec_len}
use Rattle.std.specs.Prelude.{vec_capacity}
use Rattle.std.specs.List.{AllZip}
use Rattle.std.specs.Vec.Iter.{into_iter_items}
use Rattle.exchange.specs.Serving.{IsServed}
use Rattle.link.proofs.Ends.{AreEnded}
use Rattle.link.proofs.ending.end_all.Given as goal

abbrev pub invariant-loop-dealer : goal.invariant-loop-dealer
invariant-loop-dealer g l = record {
  rest : l.yielded ++ into_iter_items l.dealer-iterator ≡ l.fn.dealers.items;
  left : into_iter_items l.hands ≡ drop (length l.yielded) l.fn.hands.items;
  own : AllZip (IsServed post.ghosts) (into_iter_items l.dealer-iterator) (into_iter_items l.hands);
  done : AreEnded post.ghosts l.yielded (take (length l.yielded) l.fn.hands.items) l.posts.items l.ended.items;
  hand_count : vec_len l.ended ≡ length l.yielded;
  hand_room : vec_capacity l.ended ≡ vec_capacity l.fn.room.hands;
  post_room : vec_capacity l.posts ≡ vec_capacity l.fn.room.posts;
}

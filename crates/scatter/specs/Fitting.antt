-- What a feed asks of a sink.
use Rattle.std.specs.Prelude.{◌≡◌, ◌+◌, ◌≤◌}
use Rattle.block_pool.specs.Handles.{HandValue, Follows}
use Rattle.lop_chain.specs.declared.sink.RowSink.{Ghosts}
use Rattle.scatter.specs.Feeds.{FeedValue}

-- Of a hand, which sinks it serves and what they hold rest on its pool and its permits alone: a hand with more permits
-- serves too, and one permit more is one more that is held. A later hand is just that.
pub record RestsOnHands {S R : Type 0} (g : Ghosts S HandValue R) : Type 0 where
  pub serves : (s : S) (a b : HandValue) → b.pool ≡ a.pool → a.permits ≤ b.permits → g.serves s a → g.serves s b
  pub held : (s : S) (a b : HandValue) → g.held s a + b.permits ≡ g.held s b + a.permits
  pub follows : (a b : HandValue) → Follows a b → g.follows a b
  pub followed : (a b : HandValue) → g.follows a b → Follows a b

-- The hand serves the sink; where the feed reads blocks and has none pinned, also with one permit fewer, which is there.
pub record CanFeed {S R : Type 0} (g : Ghosts S HandValue R) (f : FeedValue) (s : S) (a : HandValue) : Type 0 where
  pub serves : (b : HandValue) → b.pool ≡ a.pool → a.permits + f.pinned ≤ b.permits + f.pins → g.serves s b
  pub permit : f.pins ≤ a.permits + f.pinned

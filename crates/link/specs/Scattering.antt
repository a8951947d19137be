-- Scatters from their making to their end.
use Rattle.std.specs.Prelude.{◌≡◌, ℕ, ◌+◌, ◌≤◌, false, List, [], ◌∷◌, ◌++◌, ◌⊎◌, length, replicate, None, vec_len, vec_capacity}
use Rattle.row_defs.specs.declared.kind.Kind.{Kind}
use Rattle.block_pool.specs.Handles.{HandValue}
use Rattle.block_pool.specs.declared.pool.TheConstants.{LEAST_BLOCK}
use Rattle.multiplexer.specs.declared.post.Post.{Ghosts}
use Rattle.exchange.specs.Dealing.{sent_to, bytes_to, joined, open_frames, SentMore, SamePost}
use Rattle.exchange.specs.Serving.{Asked, Answered, Accepts, ScatterValue, IsServed}
use Rattle.link.specs.declared.ending.Ended.{Ended}

-- a post to so many workers through which nothing was sent
pub record IsNewPost {P : Type 0} (p : Ghosts P) (workers : ℕ) (post : P) : Type 0 where
  pub workers_are : p.workers post ≡ workers
  pub lanes : length (p.sent post) ≡ workers
  pub none : (w : ℕ) → sent_to (p.sent post) w ≡ []

-- a hand with so many permits and blocks that are no smaller than rows want serves the scatter
abbrev pub IsServedBy : {F P : Type 0} → Ghosts P → ℕ → ScatterValue F P → Type 0
IsServedBy p workers s = (d : HandValue) → workers ≤ d.permits → LEAST_BLOCK ≤ d.pool.opening.block → IsServed p s d

-- a scatter of rows of these kinds that took no row yet, by this route and through this post
pub record IsFreshScatter {F P : Type 0} (p : Ghosts P) (kinds : List Kind) (workers : ℕ) (route : F) (post : P) (s : ScatterValue F P) : Type 0 where
  pub kinds_are : s.kinds ≡ kinds
  pub route_is : s.route ≡ route
  pub post_is : s.post ≡ post
  pub began_is : s.began ≡ post
  pub none : s.taken ≡ 0
  pub frames_are : s.frames ≡ replicate workers None
  pub is_open : s.is_shut ≡ false
  pub serves : IsServedBy p workers s

-- a scatter that takes rows of these kinds
pub record IsReadyScatter {F P : Type 0} (p : Ghosts P) (pre : Asked F) (post : Answered F) (kinds : List Kind) (workers : ℕ) (s : ScatterValue F P) : Type 0 where
  pub accepts : Accepts pre post p s kinds
  pub is_open : s.is_shut ≡ false
  pub serves : IsServedBy p workers s

-- the post of a scatter that was finished with this hand
pub record IsSentOff {F P : Type 0} (p : Ghosts P) (s : ScatterValue F P) (a : HandValue) (post : P) : Type 0 where
  pub bytes : (w : ℕ) → joined (sent_to (p.sent post) w) ≡ bytes_to (p.sent s.post) s.frames w
  pub since : (w : ℕ) → SentMore a.pool (sent_to (p.sent s.began) w) (sent_to (p.sent post) w)
  pub same : SamePost p s.post post

-- the hand after the end of its scatter: the frames that were written are permits again
abbrev pub IsFreed : {F P : Type 0} → ScatterValue F P → HandValue → HandValue → Type 0
IsFreed s a b = b.permits ≡ a.permits + open_frames s.frames

-- a scatter was finished: its post stands behind the others, or there was no memory
pub record IsPosted {F P : Type 0} (p : Ghosts P) (s : ScatterValue F P) (a : HandValue) (before now : List P) (b : HandValue) : Type 0 where
  pub post : P
  pub items : now ≡ before ++ post ∷ []
  pub sent : IsSentOff p s a post
  pub freed : IsFreed s a b

abbrev pub IsEnd : {F P : Type 0} → Ghosts P → ScatterValue F P → HandValue → List P → List P → HandValue → Type 0
IsEnd p s a before now b = (now ≡ before) ⊎ IsPosted p s a before now b

-- there is room for what comes back from so many scatters
pub record HasRoomFor {D P : Type 0} (count : ℕ) (room : Ended D P) : Type 0 where
  pub no_hands : vec_len room.hands ≡ 0
  pub no_posts : vec_len room.posts ≡ 0
  pub for_hands : count ≤ vec_capacity room.hands
  pub for_posts : count ≤ vec_capacity room.posts

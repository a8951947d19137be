-- What contracts see of a scatter, and what it asks of a hand.
use Rattle.std.specs.Prelude.{◌≡◌, ℕ, ◌+◌, ◌*◌, ◌<◌, ◌≤◌, ◌^◌, Bool, List, [], ◌++◌, length, Option, refl, ⊤}
use Rattle.std.proofs.Common.{◌∙◌, subst, arith}
use Rattle.row_defs.specs.declared.kind.Kind.{Kind}
use Rattle.row_defs.specs.Rows.{Row, kinds_of}
use Rattle.block_pool.specs.Handles.{BlockValue, FrameValue, HandValue, HasHit, Follows}
use Rattle.dia_item.specs.declared.row_ref.RowRef.{RowRef}
use Rattle.dia_item.specs.Lent.{row_in_ref}
use Rattle.multiplexer.specs.declared.post.Post.{Ghosts}
use Rattle.block_pool.specs.declared.pool.TheConstants.{LEAST_BLOCK}
use Rattle.exchange.specs.Limits.{most_dealt, most_packets, most_begun}
use Rattle.exchange.specs.Dealing.{sent_to, bytes_to, open_frames, AreOpenIn, SentMore, SamePost, same_post, same_post_too}
use Rattle.exchange.specs.Deals.{Dealt, Dealt-none, Dealt-more}
use Rattle.exchange.specs.declared.scatter_err.ScatterErr.{ScatterErr}
use Rattle.exchange.specs.declared.scatter_err.ScatterErr.TheVariants.{Disk, NoMemory, TooManyRows}

-- the kinds of its rows, its route, its post now and as it was at first, the frames that are written, how many rows were
-- taken, and whether it takes no more
pub record ScatterValue (F P : Type 0) : Type 0 where
  pub kinds : List Kind
  pub route : F
  pub post : P
  pub began : P
  pub frames : List (Option FrameValue)
  pub taken : ℕ
  pub is_shut : Bool

-- the blocks sent to a worker since the scatter was made: few for so many rows, none empty, and all of the hand's pool
pub record SentSince (d : HandValue) (begun sent : List BlockValue) (taken : ℕ) : Type 0 where
  pub more : SentMore d.pool begun sent
  pub begun_few : length begun < most_begun
  pub few : length sent ≤ length begun + most_packets * taken

-- The hand is of the pool of the frames and of the blocks that were sent, and its permits and the frames that are written
-- are at least as many as the workers.
pub record Serves (d : HandValue) (fs : List (Option FrameValue)) (begun sent : List (List BlockValue)) (workers taken : ℕ) : Type 0 where
  pub own : AreOpenIn d.pool fs
  pub block : LEAST_BLOCK ≤ d.pool.opening.block
  pub room : workers ≤ d.permits + open_frames fs
  pub len : length fs ≡ workers
  pub lanes : length sent ≡ workers
  pub since : (w : ℕ) → SentSince d (sent_to begun w) (sent_to sent w) taken
  pub most : taken ≤ most_dealt
  pub few_workers : workers < 2 ^ 32

-- A route is a function of a row and of how many rows were taken before: what it may be asked, and what it answers.
abbrev pub Asked : Type 0 → Type 1
Asked F = F → RowRef → ℕ → Type 0

abbrev pub Answered : Type 0 → Type 1
Answered F = F → RowRef → ℕ → ℕ → Type 0

-- the workers that a route may answer for a row
abbrev pub answers_of : {F : Type 0} → Answered F → F → Row → ℕ → ℕ → Type 0
answers_of post route row n w = (r : RowRef) × (row_in_ref r ≡ row) × post route r n w

-- its rows are of these kinds, and the route may be asked for each such row, and answers a worker
abbrev pub Accepts : {F P : Type 0} → Asked F → Answered F → Ghosts P → ScatterValue F P → List Kind → Type 0
Accepts pre post p s kinds =
    (s.kinds ≡ kinds) × ((r : RowRef) (n : ℕ) → kinds_of (row_in_ref r) ≡ kinds → n < most_dealt → pre s.route r n × ((w : ℕ) → post s.route r n w → w < p.workers s.post))

-- these rows came on their way to the workers that the route answered, and no others
abbrev pub Took : {F P : Type 0} → Answered F → Ghosts P → ScatterValue F P → List Row → ScatterValue F P → Type 0
Took post p s rows t = Dealt (answers_of post s.route) s.taken (bytes_to (p.sent s.post) s.frames) rows t.taken (bytes_to (p.sent t.post) t.frames) × (t.route ≡ s.route)

abbrev pub IsServed : {F P : Type 0} → Ghosts P → ScatterValue F P → HandValue → Type 0
IsServed p s d = Serves d s.frames (p.sent s.began) (p.sent s.post) (p.workers s.post) s.taken

-- what stays, whatever is answered
abbrev pub Stays : {F P : Type 0} → Ghosts P → ScatterValue F P → ScatterValue F P → Type 0
Stays p s t = (t.route ≡ s.route) × (t.began ≡ s.began) × SamePost p s.post t.post

-- a fault of the disk comes only with a hit; too many rows, just where so many were taken
abbrev pub RefusesRow : ScatterErr → ℕ → HandValue → HandValue → Type 0
RefusesRow (Disk count) taken a b = HasHit a.notes b.notes count
RefusesRow NoMemory taken a b = ⊤
RefusesRow TooManyRows taken a b = taken ≡ most_dealt

-- laws ----------------------------------------------------------------------------------------------------------------

pub refuses_from : (e : ScatterErr) (taken : ℕ) (a b c : HandValue) → Follows a b → RefusesRow e taken b c → RefusesRow e taken a c
refuses_from (Disk count) taken a b c p q = record { hits = omega (arith, p.grown.hits, q.hits); rose = q.rose; count_is = q.count_is }
refuses_from NoMemory taken a b c p q = q
refuses_from TooManyRows taken a b c p q = q

pub took_none : {F P : Type 0} (post : Answered F) (p : Ghosts P) (s : ScatterValue F P) → Took post p s [] s
took_none post p s = (Dealt-none (answers_of post s.route) s.taken (bytes_to (p.sent s.post) s.frames), refl)

pub took_more : {F P : Type 0} (post : Answered F) (p : Ghosts P) (a b c : ScatterValue F P) (xs ys : List Row) → Took post p a xs b → Took post p b ys c → Took post p a (xs ++ ys) c
took_more {F} post p a b c xs ys h k =
    let Q : F → Type 0 = λ f. Dealt (answers_of post f) b.taken (bytes_to (p.sent b.post) b.frames) ys c.taken (bytes_to (p.sent c.post) c.frames) in (
      Dealt-more (answers_of post a.route) a.taken b.taken c.taken (bytes_to (p.sent a.post) a.frames) (bytes_to (p.sent b.post) b.frames) (bytes_to (p.sent c.post) c.frames)
          xs ys h.0 (subst Q h.1 k.0),
      k.1 ∙ h.1,
    )

pub stays_same : {F P : Type 0} (p : Ghosts P) (s : ScatterValue F P) → Stays p s s
stays_same p s = (refl, refl, same_post p s.post)

pub stays_too : {F P : Type 0} (p : Ghosts P) (a b c : ScatterValue F P) → Stays p a b → Stays p b c → Stays p a c
stays_too p a b c h k = (k.0 ∙ h.0, k.1 ∙ h.1, same_post_too p a.post b.post c.post h.2 k.2)

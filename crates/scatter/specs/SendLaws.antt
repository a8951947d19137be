-- Feeds and sinks that go on, one step after another.
use Rattle.std.specs.Prelude.{refl}
use Rattle.std.proofs.Common.{ap, subst, ◌∙◌, arith}
use Rattle.block_pool.specs.Handles.{HandValue, HasHit, Follows}
use Rattle.block_pool.specs.Follows.{follows_refl, follows_trans}
use Rattle.lop_chain.specs.declared.sink.RowSink.{Ghosts}
use Rattle.row_defs.specs.Rows.{Row}
use Rattle.scatter.specs.declared.feed_err.FeedErr.{FeedErr}
use Rattle.scatter.specs.declared.feed_err.FeedErr.TheVariants.{Sink, Disk, Damaged, NoMemory}
use Rattle.scatter.specs.Feeds.{FeedValue}
use Rattle.scatter.specs.Steps.{IsSameFeed}
use Rattle.scatter.specs.Sends.{GivesRows, IsSent, Unsent, Goes, HasGone}

pub same_feed_refl : (f : FeedValue) → IsSameFeed f f
same_feed_refl f = record { kinds = refl; ops = refl; keeps = refl; pins = refl }

pub same_feed_trans : (f h i : FeedValue) → IsSameFeed f h → IsSameFeed h i → IsSameFeed f i
same_feed_trans f h i p q = record { kinds = q.kinds ∙ p.kinds; ops = q.ops ∙ p.ops; keeps = q.keeps ∙ p.keeps; pins = q.pins ∙ p.pins }

-- what was hit since a later hand was hit since an earlier one
pub hit_from : (a b c : HandValue) (count : _) → Follows a b → HasHit b.notes c.notes count → HasHit a.notes c.notes count
hit_from a b c count p q = let grown = p.grown.hits in let rose = q.hits in record { hits = omega arith; rose = q.rose; count_is = q.count_is }

module _ {S R : Type 0} (g : Ghosts S HandValue R) where
  pub goes_refl : ((s : S) → g.stays s s) → (f : FeedValue) (s : S) (a : HandValue) → Goes g f s a f s a
  goes_refl stays f s a = record {
    follows = follows_refl a;
    same = same_feed_refl f;
    stays = stays s;
    own = λ own. own;
    held = λ is_open. (is_open, refl);
  }

  pub goes_trans : ((a b c : S) → g.stays a b → g.stays b c → g.stays a c)
      → (f h i : FeedValue) (s t u : S) (a b c : HandValue) → Goes g f s a h t b → Goes g h t b i u c → Goes g f s a i u c
  goes_trans stays f h i s t u a b c p q = record {
    follows = follows_trans a b c p.follows q.follows;
    same = same_feed_trans f h i p.same q.same;
    stays = stays s t u p.stays q.stays;
    own = λ own. q.own (p.own own);
    held = λ is_open. let later = q.held is_open in let before = p.held later.0 in (before.0, later.1 ∙ before.1);
  }

  pub gone_refl : ((s : S) → g.stays s s) → ((a : HandValue) → g.follows a a) → (f0 : FeedValue) (s0 : S) (f : FeedValue) (s : S) (a : HandValue) → HasGone g f0 s0 f s a f0 s0 f s a
  gone_refl stays desk f0 s0 f s a = record { goes = goes_refl stays f s a; desk = desk a; feed_was = refl; sink_was = refl }

  pub gone_trans : ((a b c : S) → g.stays a b → g.stays b c → g.stays a c) → ((a b c : HandValue) → g.follows a b → g.follows b c → g.follows a c)
      → (f0 : FeedValue) (s0 : S) (f : FeedValue) (s : S) (a : HandValue) (f1 : FeedValue) (s1 : S) (h : FeedValue) (t : S) (b : HandValue) (f2 : FeedValue) (s2 : S) (i : FeedValue) (u : S) (c : HandValue)
      → HasGone g f0 s0 f s a f1 s1 h t b → HasGone g f1 s1 h t b f2 s2 i u c → HasGone g f0 s0 f s a f2 s2 i u c
  gone_trans stays desk f0 s0 f s a f1 s1 h t b f2 s2 i u c p q = record {
    goes = goes_trans stays f h i s t u a b c p.goes q.goes;
    desk = desk a b c p.desk q.desk;
    feed_was = q.feed_was ∙ p.feed_was;
    sink_was = q.sink_was ∙ p.sink_was;
  }

  sent_in : (a b : HandValue) (f h : FeedValue) (s t : S) → Follows a b → IsSent g b.pool f s h t → IsSent g a.pool f s h t
  sent_in a b f h s t p q = subst (λ pool. IsSent g pool f s h t) p.pool q

  -- a fault from a later hand is one from an earlier hand
  pub unsent_from : ((s t : S) (a b c : HandValue) (row : Row) (e : R) → g.follows a b → g.refused s b row e t c → g.refused s a row e t c)
      → (f h : FeedValue) (s t : S) (a b c : HandValue) (e : FeedErr R) → g.follows a b → Follows a b → Unsent g f s b e h t c → Unsent g f s a e h t c
  unsent_from from f h s t a b c (Sink e) k p q = record {
    rows = q.rows;
    gives = subst (λ pool. GivesRows pool f q.rows h) p.pool q.gives;
    prefix = q.prefix;
    next = q.next;
    back = q.back;
    at = q.at;
    parts = q.parts;
    took = q.took;
    refused = from q.at t a b c q.next e k q.refused;
    shut = q.shut;
  }
  unsent_from from f h s t a b c (Disk count) k p q = (sent_in a b f h s t p q.0, hit_from a b c count p q.1)
  unsent_from from f h s t a b c Damaged k p q = (sent_in a b f h s t p q.0, λ tells. q.1 (ap (λ pool. pool.opening.tells) p.pool ∙ tells))
  unsent_from from f h s t a b c NoMemory k p q = sent_in a b f h s t p q

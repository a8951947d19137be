-- Readers and sinks that go on, one step after another.
use Rattle.std.specs.Prelude.{refl, List, [], ◌∷◌, ◌++◌}
use Rattle.std.proofs.Common.{ap, subst, ◌∙◌}
use Rattle.row_defs.specs.declared.kind.Kind.{Kind}
use Rattle.row_defs.specs.Rows.{Row}
use Rattle.block_pool.specs.Handles.{HandValue, Follows}
use Rattle.block_pool.specs.Follows.{follows_refl, follows_trans}
use Rattle.lop_chain.specs.declared.sink.RowSink.{Ghosts}
use Rattle.mix_stream.specs.Reading.{Reading}
use Rattle.scatter.specs.declared.feed_err.FeedErr.{FeedErr}
use Rattle.scatter.specs.declared.feed_err.FeedErr.TheVariants.{Sink, Disk, Damaged, NoMemory}
use Rattle.scatter.specs.SendLaws.{hit_from}
use Rattle.arrivals.specs.Receives.{GivesRows, IsReceived, Unreceived, Goes, HasGone}

module _ {S R : Type 0} (g : Ghosts S HandValue R) where
  pub goes_refl : ((s : S) → g.stays s s) → (r : Reading) (s : S) (a : HandValue) → Goes g r s a r s a
  goes_refl stays r s a = record {
    follows = follows_refl a;
    kinds = refl;
    stays = stays s;
    own = λ own. own;
    held = λ is_open. (is_open, refl);
  }

  pub goes_trans : ((a b c : S) → g.stays a b → g.stays b c → g.stays a c)
      → (r q p : Reading) (s t u : S) (a b c : HandValue) → Goes g r s a q t b → Goes g q t b p u c → Goes g r s a p u c
  goes_trans stays r q p s t u a b c one two = record {
    follows = follows_trans a b c one.follows two.follows;
    kinds = two.kinds ∙ one.kinds;
    stays = stays s t u one.stays two.stays;
    own = λ own. two.own (one.own own);
    held = λ is_open. let later = two.held is_open in let before = one.held later.0 in (before.0, later.1 ∙ before.1);
  }

  pub gone_refl : ((s : S) → g.stays s s) → ((a : HandValue) → g.follows a a) → (r0 : Reading) (s0 : S) (r : Reading) (s : S) (a : HandValue) → HasGone g r0 s0 r s a r0 s0 r s a
  gone_refl stays desk r0 s0 r s a = record { goes = goes_refl stays r s a; desk = desk a; reader_was = refl; sink_was = refl }

  pub gone_trans : ((a b c : S) → g.stays a b → g.stays b c → g.stays a c) → ((a b c : HandValue) → g.follows a b → g.follows b c → g.follows a c)
      → (r0 : Reading) (s0 : S) (r : Reading) (s : S) (a : HandValue) (r1 : Reading) (s1 : S) (q : Reading) (t : S) (b : HandValue) (r2 : Reading) (s2 : S) (p : Reading) (u : S) (c : HandValue)
      → HasGone g r0 s0 r s a r1 s1 q t b → HasGone g r1 s1 q t b r2 s2 p u c → HasGone g r0 s0 r s a r2 s2 p u c
  gone_trans stays desk r0 s0 r s a r1 s1 q t b r2 s2 p u c one two = record {
    goes = goes_trans stays r q p s t u a b c one.goes two.goes;
    desk = desk a b c one.desk two.desk;
    reader_was = two.reader_was ∙ one.reader_was;
    sink_was = two.sink_was ∙ one.sink_was;
  }

  module _ (kinds : List Kind) (held : List (List Row) → Type 0) where
    received_in : (a b : HandValue) (q : Reading) (s t : S) → Follows a b → IsReceived g b.pool kinds held s q t → IsReceived g a.pool kinds held s q t
    received_in a b q s t p it = subst (λ pool. IsReceived g pool kinds held s q t) p.pool it

    -- a fault from a later hand is one from an earlier hand
    pub unreceived_from : ((s t : S) (a b c : HandValue) (row : Row) (e : R) → g.follows a b → g.refused s b row e t c → g.refused s a row e t c)
        → (q : Reading) (s t : S) (a b c : HandValue) (e : FeedErr R) → g.follows a b → Follows a b → Unreceived g kinds held s b e q t c → Unreceived g kinds held s a e q t c
    unreceived_from from q s t a b c (Sink e) k p it = record {
      rows = it.rows;
      next = it.next;
      at = it.at;
      gives = subst (λ pool. GivesRows pool kinds held (it.rows ++ it.next ∷ []) q) p.pool it.gives;
      took = it.took;
      refused = from it.at t a b c it.next e k it.refused;
      shut = it.shut;
    }
    unreceived_from from q s t a b c (Disk count) k p it = (received_in a b q s t p it.0, hit_from a b c count p it.1)
    unreceived_from from q s t a b c Damaged k p it = (received_in a b q s t p it.0, λ tells. it.1 (ap (λ pool. pool.opening.tells) p.pool ∙ tells))
    unreceived_from from q s t a b c NoMemory k p it = received_in a b q s t p it

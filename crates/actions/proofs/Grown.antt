-- One feed more is printed.
use Rattle.std.proofs.Common.{◌≡◌, ℕ, List, [], ◌∷◌, ◌++◌, length, Some, Result, Ok, Err, OnOk, IfErr, refl, sym, ap, subst, ◌∙◌, append_assoc, append-nil}
use Rattle.std.specs.Prelude.{slice_get}
use Rattle.std.specs.List.{AllZip}
use Rattle.std.proofs.lemmas.List.Concat.{flat_map-append}
use Rattle.row_defs.specs.Rows.{Row}
use Rattle.row_defs.specs.LocalOps.{rows_through}
use Rattle.dia_edge.specs.declared.refusals.Failed.{Failed}
use Rattle.dia_edge.specs.declared.sink.Sink.{Ghosts}
use Rattle.block_pool.specs.Handles.{PoolName, HandValue}
use Rattle.lop_chain.specs.Ops.{rows_from}
use Rattle.scatter.specs.declared.feed_err.FeedErr.{FeedErr}
use Rattle.scatter.specs.declared.feed_err.FeedErr.TheVariants as feeds
use Rattle.scatter.specs.Feeds.{FeedValue}
use Rattle.scatter.specs.Steps.{IsTold}
use Rattle.scatter.specs.Sends.{GivesRows}
use Rattle.feed_print.specs.Printing.{printed, refused, prints_none, prints_more, PrintedSome}
use Rattle.scatter.specs.Told.{Tells, SomeHit}
use Rattle.actions.specs.Printing.{rows_of_feeds, AreToldFeeds, PrintedOne, PrintedAll, PrintedFirst, NotAllPrinted, HasPrinted}
use Rattle.lent_step.proofs.Lists.{zip_more}
use Rattle.actions.proofs.Snoc.{zip_less, all_less, get_more, get_end}

abbrev rows_of : FeedValue → List Row
rows_of f = rows_from f.ops f.left

rows_more : (fs : List FeedValue) (f : FeedValue) → rows_of_feeds fs ++ rows_of f ≡ rows_of_feeds (fs ++ f ∷ [])
rows_more fs f = ap (λ rows. rows_of_feeds fs ++ rows) (sym (append-nil (rows_of f))) ∙ sym (flat_map-append rows_of fs (f ∷ []))

-- what is made of the rows that were given and of those that are left
given : (pool : PoolName) (f h : FeedValue) (rows : List Row) → GivesRows pool f rows h → IsTold pool f → rows_of f ≡ rows_from f.ops rows ++ rows_from f.ops h.left
given pool f h rows gives told = ap (rows_from f.ops) (gives.told told) ∙ flat_map-append (rows_through f.ops) rows h.left

-- nothing was printed yet
pub printed_none : {S : Type 0} (g : Ghosts S) (told : Type 0) (old : S) (waits : List ℕ) → PrintedAll g told [] old old waits waits
printed_none g told old waits = record { made = []; puts = prints_none g.taken g.faults old waits; all = λ t. refl }

pub first_none : {S : Type 0} (g : Ghosts S) (told : Type 0) (rows : List Row) (old : S) (waits : List ℕ) → PrintedFirst g told rows old old waits waits printed
first_none g told rows old waits = record { made = []; rest = rows; puts = prints_none g.taken g.faults old waits; first = λ t. refl }

pub hit_more : (hs bs : List HandValue) (a b : HandValue) (count : ℕ) → SomeHit hs bs count → SomeHit (hs ++ a ∷ []) (bs ++ b ∷ []) count
hit_more hs bs a b count h = record {
  rank = h.rank;
  before = h.before;
  met = h.met;
  after = h.after;
  was = get_more hs (a ∷ []) h.rank h.before h.was;
  is = get_more bs (b ∷ []) h.rank h.after h.is;
  hit = h.hit;
  later = h.later;
}

module _ {S : Type 0} (g : Ghosts S) (told more_told : Type 0) (rows : List Row) (old mid new : S) (waits w now : List ℕ) (f : FeedValue) (a b : HandValue) (hs bs : List HandValue)
    (less : more_told → told × IsTold a.pool f) where
  joined : (all : PrintedAll g told rows old mid waits w) → (h : FeedValue) (first : List Row) → GivesRows a.pool f first h → told × IsTold a.pool f
      → rows ++ rows_of f ≡ (all.made ++ rows_from f.ops first) ++ rows_from f.ops h.left
  joined all h first gives is =
      ap (λ l. l ++ rows_of f) (all.all is.0) ∙ ap (λ l. all.made ++ l) (given a.pool f h first gives is.1)
      ∙ sym (append_assoc all.made (rows_from f.ops first) (rows_from f.ops h.left))

  some_more : PrintedAll g told rows old mid waits w → (h : FeedValue) (r : Result (Unit {0}) Failed) → PrintedSome g a.pool f h mid new w now r
      → PrintedFirst g more_told (rows ++ rows_of f) old new waits now r
  some_more all h r p = record {
    made = all.made ++ rows_from f.ops p.rows;
    rest = rows_from f.ops h.left;
    puts = prints_more g.taken g.faults old mid new waits w now all.made (rows_from f.ops p.rows) r all.puts p.puts;
    first = λ t. joined all h p.rows p.gives (less t);
  }

  all_more : PrintedAll g told rows old mid waits w → (h : FeedValue) → h.left ≡ [] → PrintedSome g a.pool f h mid new w now printed
      → PrintedAll g more_told (rows ++ rows_of f) old new waits now
  all_more all h none p =
      let made = all.made ++ rows_from f.ops p.rows in
      record {
        made = made;
        puts = prints_more g.taken g.faults old mid new waits w now all.made (rows_from f.ops p.rows) printed all.puts p.puts;
        all = λ t. joined all h p.rows p.gives (less t) ∙ ap (λ l. made ++ rows_from f.ops l) none ∙ append-nil made;
      }

  next_ok : PrintedAll g told rows old mid waits w → (after : Result (Unit {0}) (FeedErr Failed)) → PrintedOne g f a mid w after b new now → length bs ≡ length hs
      → HasPrinted g more_told (rows ++ rows_of f) (hs ++ a ∷ []) old waits after (bs ++ b ∷ []) new now
  next_ok all (Ok done) one long = all_more all one.left one.end one.prints
  next_ok all (Err (feeds.Sink e)) one long = some_more all one.left (refused e) one.prints
  next_ok all (Err (feeds.Disk count)) one long = (
    some_more all one.left printed one.prints.0,
    record {
      rank = length hs;
      before = a;
      met = one.met;
      after = b;
      was = get_end hs a;
      is = subst (λ n. slice_get (bs ++ b ∷ []) n ≡ Some b) long (get_end bs b);
      hit = one.prints.1;
      later = one.later;
    },
  )
  next_ok all (Err feeds.Damaged) one long = (some_more all one.left printed one.prints.0, λ tells. one.prints.1 (all_less Tells hs a tells).1)
  next_ok all (Err feeds.NoMemory) one long = some_more all one.left printed one.prints

  first_more : (r : Result (Unit {0}) Failed) → PrintedFirst g told rows old mid waits w r → PrintedFirst g more_told (rows ++ rows_of f) old mid waits w r
  first_more r p = record {
    made = p.made;
    rest = p.rest ++ rows_of f;
    puts = p.puts;
    first = λ t. ap (λ l. l ++ rows_of f) (p.first (less t).0) ∙ append_assoc p.made p.rest (rows_of f);
  }

  next_err : (e : FeedErr Failed) → NotAllPrinted g told rows hs old waits e bs mid w → NotAllPrinted g more_told (rows ++ rows_of f) (hs ++ a ∷ []) old waits e (bs ++ b ∷ []) mid w
  next_err (feeds.Sink e) p = first_more (refused e) p
  next_err (feeds.Disk count) p = (first_more printed p.0, hit_more hs bs a b count p.1)
  next_err feeds.Damaged p = (first_more printed p.0, λ tells. p.1 (all_less Tells hs a tells).0)
  next_err feeds.NoMemory p = first_more printed p

  next : (before after : Result (Unit {0}) (FeedErr Failed)) → HasPrinted g told rows hs old waits before bs mid w
      → OnOk before (PrintedOne g f a mid w after b new now) → IfErr before (λ e. (after ≡ Err e) × (new ≡ mid) × (now ≡ w)) → length bs ≡ length hs
      → HasPrinted g more_told (rows ++ rows_of f) (hs ++ a ∷ []) old waits after (bs ++ b ∷ []) new now
  next (Ok done) after p one skips long = next_ok p after one long
  next (Err e) after p one skips long = rw (skips.0, skips.1, skips.2) (next_err e p)

pub printed_next : {S : Type 0} (g : Ghosts S) (fs : List FeedValue) (hs bs : List HandValue) (f : FeedValue) (a b : HandValue) (old mid new : S) (waits w now : List ℕ)
    (before after : Result (Unit {0}) (FeedErr Failed)) → HasPrinted g (AreToldFeeds fs hs) (rows_of_feeds fs) hs old waits before bs mid w
    → OnOk before (PrintedOne g f a mid w after b new now) → IfErr before (λ e. (after ≡ Err e) × (new ≡ mid) × (now ≡ w)) → length bs ≡ length hs
    → HasPrinted g (AreToldFeeds (fs ++ f ∷ []) (hs ++ a ∷ [])) (rows_of_feeds (fs ++ f ∷ [])) (hs ++ a ∷ []) old waits after (bs ++ b ∷ []) new now
printed_next g fs hs bs f a b old mid new waits w now before after p one skips long =
    let R : FeedValue → HandValue → Type 0 = λ f a. IsTold a.pool f in
    subst (λ rows. HasPrinted g (AreToldFeeds (fs ++ f ∷ []) (hs ++ a ∷ [])) rows (hs ++ a ∷ []) old waits after (bs ++ b ∷ []) new now) (rows_more fs f)
    (next g (AreToldFeeds fs hs) (AreToldFeeds (fs ++ f ∷ []) (hs ++ a ∷ [])) (rows_of_feeds fs) old mid new waits w now f a b hs bs (λ t. zip_less R fs hs f a t) before after p one skips long)

abbrev SamePermits : HandValue → HandValue → Type 0
SamePermits a b = b.permits ≡ a.permits

pub permits_next : {S : Type 0} (mid new : S) (w now : List ℕ) (before after : Result (Unit {0}) (FeedErr Failed)) (hs bs : List HandValue) (a b : HandValue)
    → OnOk before (AllZip SamePermits hs bs) → OnOk after (b.permits ≡ a.permits) → IfErr before (λ e. (after ≡ Err e) × (new ≡ mid) × (now ≡ w))
    → OnOk after (AllZip SamePermits (hs ++ a ∷ []) (bs ++ b ∷ []))
permits_next mid new w now (Ok done) (Ok more) hs bs a b all here skips = zip_more SamePermits hs bs a b all here
permits_next mid new w now (Ok done) (Err e) hs bs a b all here skips = tt
permits_next mid new w now (Err e) (Ok more) hs bs a b all here skips = let is = skips.0 in absurd cc
permits_next mid new w now (Err e) (Err f) hs bs a b all here skips = tt

-- the same of rows that are known where others are
module _ {S : Type 0} (g : Ghosts S) (told more_told : Type 0) (rows : List Row) (known : more_told → told) (old new : S) (waits now : List ℕ) where
  first_as : (r : Result (Unit {0}) Failed) → PrintedFirst g told rows old new waits now r → PrintedFirst g more_told rows old new waits now r
  first_as r p = record { made = p.made; rest = p.rest; puts = p.puts; first = λ t. p.first (known t) }

  printed_known : (hands later : List HandValue) (answer : Result (Unit {0}) (FeedErr Failed)) → HasPrinted g told rows hands old waits answer later new now
      → HasPrinted g more_told rows hands old waits answer later new now
  printed_known hands later (Ok done) p = record { made = p.made; puts = p.puts; all = λ t. p.all (known t) }
  printed_known hands later (Err (feeds.Sink e)) p = first_as (refused e) p
  printed_known hands later (Err (feeds.Disk count)) p = (first_as printed p.0, p.1)
  printed_known hands later (Err feeds.Damaged) p = (first_as printed p.0, p.1)
  printed_known hands later (Err feeds.NoMemory) p = first_as printed p

  pub printed_as : (all : List Row) → rows ≡ all → (hands later : List HandValue) (answer : Result (Unit {0}) (FeedErr Failed)) → HasPrinted g told rows hands old waits answer later new now
      → HasPrinted g more_told all hands old waits answer later new now
  printed_as all same hands later answer p =
      subst (λ rows. HasPrinted g more_told rows hands old waits answer later new now) same (printed_known hands later answer p)

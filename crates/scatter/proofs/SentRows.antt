-- Rows of a feed that are sent, one step after another.
use Rattle.std.proofs.Common.{◌≡◌, true, false, List, [], ◌∷◌, ◌++◌, length, refl, sym, ap, subst, ◌∙◌, arith, append_assoc, append-nil, length-append, Result, Ok, Err, OnOk}
use Rattle.std.specs.Prelude.{All}
use Rattle.std.proofs.lemmas.List.Elements.{All-nil, All-cons, All-append}
use Rattle.std.proofs.lemmas.List.Concat.{flat_map-append}
use Rattle.row_defs.specs.Rows.{Row}
use Rattle.row_defs.specs.LocalOps.{LocalOp, rows_through}
use Rattle.block_pool.specs.Handles.{PoolName, HandValue, AreOfPool}
use Rattle.lop_chain.specs.Rows.{Kinds, IsRowOf}
use Rattle.lop_chain.specs.Ops.{rows_from}
use Rattle.lop_chain.specs.declared.sink.RowSink.{Ghosts}
use Rattle.worker_step.specs.declared.task.Progress.{Progress}
use Rattle.worker_step.specs.declared.task.Progress.TheVariants.{More, Done}
use Rattle.worker_step.specs.Tasks.{OnMore, OnDone}
use Rattle.scatter.specs.declared.feed_err.FeedErr.{FeedErr}
use Rattle.scatter.specs.declared.feed_err.FeedErr.TheVariants.{Sink, Disk, Damaged, NoMemory}
use Rattle.scatter.specs.Feeds.{FeedValue}
use Rattle.scatter.specs.Fitting.{RestsOnHands, CanFeed}
use Rattle.scatter.specs.Steps.{IsTold, IsSameFeed, GivesRow, IsFed, IsAtEnd, IsUnfed, NotFed}
use Rattle.scatter.specs.Sends.{GivesRows, IsSent, IsCutOff, Unsent, HoldsStill, CanSend, Goes, HasLaws}
use Rattle.scatter.specs.SendLaws.{unsent_from}

-- rows that are given
gives_none : (pool : PoolName) (f h : FeedValue) → length h.left ≡ length f.left → (IsTold pool f → h.left ≡ f.left) → GivesRows pool f [] h
gives_none pool f h count told = record {
  count = let same = count in omega arith;
  are = All-nil (IsRowOf f.kinds);
  told = λ known. sym (told known);
}

gives_one : (pool : PoolName) (f : FeedValue) (row : Row) (h : FeedValue) → GivesRow pool f row h → GivesRows pool f (row ∷ []) h
gives_one pool f row h p = record {
  count = let same = p.count in omega arith;
  are = All-cons (IsRowOf f.kinds) row [] p.are (All-nil (IsRowOf f.kinds));
  told = p.told;
}

gives_more : (pool : PoolName) (f h i : FeedValue) (xs ys : List Row) → IsSameFeed f h → GivesRows pool f xs h → GivesRows pool h ys i → GivesRows pool f (xs ++ ys) i
gives_more pool f h i xs ys same p q =
    let K : Kinds → Type 0 = λ kinds. All (IsRowOf kinds) ys in
    record {
      count = let both = length-append xs ys in let one = p.count in let two = q.count in omega arith;
      are = All-append (IsRowOf f.kinds) xs ys p.are (subst K same.kinds q.are);
      told = λ known.
          let later : IsTold pool h = λ pins. known (let e = same.pins in omega arith) in
          p.told known ∙ ap (λ rows. xs ++ rows) (q.told later) ∙ sym (append_assoc xs ys i.left);
    }

-- what holds where a step tells that there is more to do, or that that was all
pub more_of : {E : Type 0} (r : Result Progress E) (A B P : Type 0) → (A → B → P) → OnOk r A → OnOk r B → OnMore r P
more_of (Ok More) A B P f a b = f a b
more_of (Ok Done) A B P f a b = tt
more_of (Err e) A B P f a b = tt

pub done_of : {E : Type 0} (r : Result Progress E) (A B C P : Type 0) → (A → B → C → P) → OnOk r A → OnOk r B → OnDone r C → OnDone r P
done_of (Ok More) A B C P f a b c = tt
done_of (Ok Done) A B C P f a b c = f a b c
done_of (Err e) A B C P f a b c = tt

abbrev made : List LocalOp → List Row → List Row
made ops rows = rows_from ops rows

made_one : (ops : List LocalOp) (row : Row) → made ops (row ∷ []) ≡ rows_through ops row
made_one ops row = append-nil (rows_through ops row)

made_more : (f h : FeedValue) (xs ys : List Row) → IsSameFeed f h → made f.ops (xs ++ ys) ≡ made f.ops xs ++ made h.ops ys
made_more f h xs ys same = flat_map-append (rows_through f.ops) xs ys ∙ ap (λ ops. made f.ops xs ++ made ops ys) (sym same.ops)

module _ {S R : Type 0} (g : Ghosts S HandValue R) (laws : HasLaws g) where
  -- the sink as it was
  pub sent_none : (pool : PoolName) (f h : FeedValue) (s t : S) → t ≡ s → length h.left ≡ length f.left → (IsTold pool f → h.left ≡ f.left) → g.is_shut s ≡ false → IsSent g pool f s h t
  sent_none pool f h s t same count told is_open = record {
    rows = [];
    gives = gives_none pool f h count told;
    took = subst (λ u. g.took s [] u) (sym same) (laws.took_none s);
    accepts = λ kinds k. subst (λ u. g.accepts u kinds) (sym same) k;
    accepted = λ kinds k. subst (λ u. g.accepts u kinds) same k;
    is_open = subst (λ u. g.is_shut u ≡ false) (sym same) is_open;
  }

  pub sent_start : (pool : PoolName) (f : FeedValue) (s : S) → g.is_shut s ≡ false → IsSent g pool f s f s
  sent_start pool f s is_open = sent_none pool f f s s refl refl (λ known. refl) is_open

  pub sent_end : (pool : PoolName) (f h : FeedValue) (s t : S) → IsAtEnd f s h t → g.is_shut s ≡ false → IsSent g pool f s h t
  sent_end pool f h s t p is_open =
      let both : h.left ≡ f.left = p.still ∙ sym p.none in
      sent_none pool f h s t p.sink (ap length both) (λ known. both) is_open

  pub sent_one : (f h : FeedValue) (s t : S) (a : HandValue) → IsFed g f s a h t
      → ((kinds : Kinds) → g.accepts s kinds → g.accepts t kinds) → ((kinds : Kinds) → g.accepts t kinds → g.accepts s kinds) → g.is_shut t ≡ false → IsSent g a.pool f s h t
  sent_one f h s t a p accepts accepted is_open = record {
    rows = p.row ∷ [];
    gives = gives_one a.pool f p.row h p.gives;
    took = subst (λ rows. g.took s rows t) (sym (made_one f.ops p.row)) p.took;
    accepts = accepts;
    accepted = accepted;
    is_open = is_open;
  }

  pub sent_more : (pool : PoolName) (f h i : FeedValue) (s t u : S) → IsSameFeed f h → IsSent g pool f s h t → IsSent g pool h t i u → IsSent g pool f s i u
  sent_more pool f h i s t u same p q = record {
    rows = p.rows ++ q.rows;
    gives = gives_more pool f h i p.rows q.rows same p.gives q.gives;
    took = subst (λ rows. g.took s rows u) (sym (made_more f h p.rows q.rows same)) (laws.took_more s t u (made f.ops p.rows) (made h.ops q.rows) p.took q.took);
    accepts = λ kinds k. q.accepts kinds (p.accepts kinds k);
    accepted = λ kinds k. p.accepted kinds (q.accepted kinds k);
    is_open = q.is_open;
  }

  cut_one : (f h : FeedValue) (s t : S) (a b : HandValue) (e : R) → NotFed g f s a (Sink e) h t b → IsCutOff g f s a e h t b
  cut_one f h s t a b e p = record {
    rows = p.row ∷ [];
    gives = gives_one a.pool f p.row h p.gives;
    prefix = p.some.prefix;
    next = p.some.next;
    back = p.some.back;
    at = p.some.at;
    parts = made_one f.ops p.row ∙ p.some.parts;
    took = p.some.took;
    refused = p.some.refused;
    shut = p.some.shut;
  }

  unfed : (f h : FeedValue) (s t : S) (a b : HandValue) → IsUnfed f s a h t b → g.is_shut s ≡ false → IsSent g a.pool f s h t
  unfed f h s t a b p is_open = sent_none a.pool f h s t p.sink p.count p.told is_open

  pub unsent_one : (f h : FeedValue) (s t : S) (a b : HandValue) (e : FeedErr R) → g.is_shut s ≡ false → NotFed g f s a e h t b → Unsent g f s a e h t b
  unsent_one f h s t a b (Sink e) is_open p = cut_one f h s t a b e p
  unsent_one f h s t a b (Disk count) is_open p = (unfed f h s t a b p.0 is_open, p.1)
  unsent_one f h s t a b Damaged is_open p = (unfed f h s t a b p.0 is_open, p.1)
  unsent_one f h s t a b NoMemory is_open p = unfed f h s t a b p is_open

  -- a fault after some rows were sent, from the same hand
  pub unsent_on : (f h i : FeedValue) (s t u : S) (a c : HandValue) (e : FeedErr R) → IsSameFeed f h → IsSent g a.pool f s h t → Unsent g h t a e i u c → Unsent g f s a e i u c
  unsent_on f h i s t u a c (Sink e) same p q = record {
    rows = p.rows ++ q.rows;
    gives = gives_more a.pool f h i p.rows q.rows same p.gives q.gives;
    prefix = made f.ops p.rows ++ q.prefix;
    next = q.next;
    back = q.back;
    at = q.at;
    parts = made_more f h p.rows q.rows same ∙ ap (λ rows. made f.ops p.rows ++ rows) q.parts ∙ sym (append_assoc (made f.ops p.rows) q.prefix (q.next ∷ q.back));
    took = laws.took_more s t q.at (made f.ops p.rows) q.prefix p.took q.took;
    refused = q.refused;
    shut = q.shut;
  }
  unsent_on f h i s t u a c (Disk count) same p q = (sent_more a.pool f h i s t u same p q.0, q.1)
  unsent_on f h i s t u a c Damaged same p q = (sent_more a.pool f h i s t u same p q.0, q.1)
  unsent_on f h i s t u a c NoMemory same p q = sent_more a.pool f h i s t u same p q

  -- and from a hand before
  pub unsent_more : RestsOnHands g → (f h i : FeedValue) (s t u : S) (a b c : HandValue) (e : FeedErr R) → Goes g f s a h t b → IsSent g a.pool f s h t → Unsent g h t b e i u c → Unsent g f s a e i u c
  unsent_more rests f h i s t u a b c e goes p q =
      unsent_on f h i s t u a c e goes.same p (unsent_from g laws.refused_from h i t u a b c e (rests.follows a b goes.follows) goes.follows q)

  -- what a step leaves of the three
  held_still : RestsOnHands g → (f h : FeedValue) (s t : S) (a b : HandValue) → IsUnfed f s a h t b → HoldsStill g f s a h t b
  held_still rests f h s t a b p =
      let one : g.held t b ≡ g.held s b = ap (λ u. g.held u b) p.sink in
      let two = rests.held s a b in
      let three = p.permits in
      omega arith

  never : (t : S) → g.is_shut t ≡ true → g.is_shut t ≡ false → ⊥
  never t p q = cc

  pub unfed_holds : RestsOnHands g → (f h : FeedValue) (s t : S) (a b : HandValue) (e : FeedErr R) → NotFed g f s a e h t b → g.is_shut t ≡ false → HoldsStill g f s a h t b
  unfed_holds rests f h s t a b (Sink e) p is_open = absurd (never t p.some.shut is_open)
  unfed_holds rests f h s t a b (Disk count) p is_open = held_still rests f h s t a b p.0
  unfed_holds rests f h s t a b Damaged p is_open = held_still rests f h s t a b p.0
  unfed_holds rests f h s t a b NoMemory p is_open = held_still rests f h s t a b p

  -- the feed may be pushed on
  pub can_go_on : (f h : FeedValue) (s t : S) (a b : HandValue) → CanSend g f s a → IsSameFeed f h → AreOfPool b.pool h.blocks
      → ((kinds : Kinds) → g.accepts s kinds → g.accepts t kinds) → CanFeed g h t b → g.is_shut t ≡ false → CanSend g h t b
  can_go_on f h s t a b p same own accepts can is_open = record {
    kinds = p.kinds;
    sound = rw (same.kinds, same.ops) p.sound;
    accepts = accepts p.kinds p.accepts;
    own = own;
    rests = p.rests;
    can = can;
    is_open = is_open;
  }

-- What counters come to, one by one.
use Rattle.std.proofs.Common.{◌≡◌, ℕ, ◌+◌, List, [], ◌∷◌, ◌++◌, map, length, refl, sym, ap, subst, ◌∙◌}
use Rattle.std.specs.Prelude.{All}
use Rattle.std.specs.List.{AllZip, flat_map}
use Rattle.std.proofs.lemmas.List.Elements.{All-head, All-tail}
use Rattle.std.proofs.lemmas.List.Concat.{flat_map-append}
use Rattle.row_defs.specs.Rows.{Row}
use Rattle.row_defs.specs.LocalOps.{LocalOp, rows_through}
use Rattle.row_defs.specs.Operands.{Root}
use Rattle.block_pool.specs.Handles.{HandValue}
use Rattle.lop_chain.specs.Ops.{rows_from}
use Rattle.lop_chain.specs.declared.sink.RowSink.{Ghosts}
use Rattle.scatter.specs.Feeds.{FeedValue}
use Rattle.scatter.specs.Lines.{Lines, root_rows, root_feeds}
use Rattle.scatter.specs.Phases.{Turn, IsServed, HasSent}
use Rattle.scatter.specs.Told.{AreTold, arriving}
use Rattle.scatter.proofs.Arriving.{feed_in, sink_before, sink_after, IsToldTurn, all_back, told_turns}
use Rattle.scatter.proofs.Rooted.{GoesThrough, root_ops}
use Rattle.feed_actions.proofs.TurnCounts.{count_one}
use Rattle.feed_counts.specs.Ranks.{row_counts}

abbrev given : List LocalOp → FeedValue → List Row
given ops f = rows_from ops f.left

-- joined by rank they are what the local lines make of all rows
given_joined : (ops : List LocalOp) (feeds : List FeedValue) → flat_map (λ (rows : List Row). rows) (map (given ops) feeds) ≡ rows_from ops (flat_map (λ (f : FeedValue). f.left) feeds)
given_joined ops [] = refl
given_joined ops (f ∷ feeds) =
    ap (λ (rows : List Row). rows_from ops f.left ++ rows) (given_joined ops feeds)
    ∙ sym (flat_map-append (rows_through ops) f.left (flat_map (λ (f : FeedValue). f.left) feeds))

pub ranks_joined : (lines : Lines) (workers : ℕ) (root : Root) (last : _) (ops : List LocalOp) → flat_map (λ (f : FeedValue). f.left) (root_feeds lines workers root last ops) ≡ root_rows lines root
    → flat_map (λ (rows : List Row). rows) (map (given ops) (root_feeds lines workers root last ops)) ≡ arriving lines root ops
ranks_joined lines workers root last ops joined = given_joined ops (root_feeds lines workers root last ops) ∙ ap (rows_from ops) joined

module _ {S R : Type 0} (g : Ghosts S HandValue R) (counted : S → ℕ) (counts : (s t : S) (rows : List Row) → g.took s rows t → counted t ≡ counted s + length rows) where
  abbrev IsNone : Turn S → Type 0
  IsNone t = counted t.sink ≡ 0

  each : (ops : List LocalOp) (turns : List (Turn S)) (now : List HandValue) → AllZip (IsServed g) turns now → All IsToldTurn turns → All IsNone turns
      → All (λ (t : Turn S). GoesThrough ops t.feed) turns → map counted (map sink_after turns) ≡ row_counts (map (given ops) (map feed_in turns))
  each ops [] [] all told none through = refl
  each ops [] (b ∷ now) all told none through = absurd all
  each ops (t ∷ turns) [] all told none through = absurd all
  each ops (t ∷ turns) (b ∷ now) all told none through =
      let P : Turn S → Type 0 = λ t. GoesThrough ops t.feed in
      let here : counted t.took ≡ length (given ops t.feed) =
      count_one g counted counts t all.0.whole (All-head IsToldTurn t turns told) (All-head IsNone t turns none) ∙ ap (λ o. length (rows_from o t.feed.left)) (All-head P t turns through) in
      let rest = each ops turns now all.1 (All-tail IsToldTurn t turns told) (All-tail IsNone t turns none) (All-tail P t turns through) in
      ap (λ (n : ℕ). n ∷ map counted (map sink_after turns)) here ∙ ap (λ (ns : List ℕ). length (given ops t.feed) ∷ ns) rest

  pub each_counted : (lines : Lines) (workers : ℕ) (root : Root) (last : _) (ops : List LocalOp) (sinks : List S) (hands : List HandValue) (took : List S) (now : List HandValue) → All (λ s. counted s ≡ 0) sinks
      → HasSent g (root_feeds lines workers root last ops) sinks hands took now → AreTold root hands → map counted took ≡ row_counts (map (given ops) (root_feeds lines workers root last ops))
  each_counted lines workers root last ops sinks hands took now none sent told =
      let are = sent.are in
      let none_turns = all_back sink_before (λ s. counted s ≡ 0) sent.turns (subst (λ ss. All (λ s. counted s ≡ 0) ss) (sym are.sinks_are) none) in
      let through : All (GoesThrough ops) (map feed_in sent.turns) = subst (λ fs. All (GoesThrough ops) fs) (sym are.feeds_are) (root_ops lines workers root last ops) in
      ap (map counted) (sym are.took_is)
      ∙ each ops sent.turns now sent.all (told_turns lines workers root last ops hands sent.turns are.feeds_are are.hands_are told) none_turns (all_back feed_in (GoesThrough ops) sent.turns through)
      ∙ ap (λ (fs : List FeedValue). row_counts (map (given ops) fs)) are.feeds_are

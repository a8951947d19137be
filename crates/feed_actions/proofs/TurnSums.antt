-- What sinks that add up come to, over the turns of all workers.
use Rattle.std.proofs.Common.{◌≡◌, ℕ, ◌+◌, ◌%◌, ◌^◌, List, [], ◌∷◌, map, refl, sym, ap, subst, ◌∙◌, arith}
use Rattle.std.specs.Prelude.{All}
use Rattle.std.specs.List.{AllZip, flat_map, sum_by}
use Rattle.std.proofs.lemmas.List.Elements.{All-head, All-tail}
use Rattle.std.proofs.lemmas.List.Sums.{sum_by-cons, sum_by-append}
use Rattle.row_defs.specs.Printed.{column_sum}
use Rattle.row_defs.specs.Rows.{Row}
use Rattle.row_defs.specs.LocalOps.{LocalOp}
use Rattle.row_defs.specs.Operands.{Root}
use Rattle.block_pool.specs.Handles.{HandValue}
use Rattle.lop_chain.specs.Ops.{rows_from}
use Rattle.lop_chain.specs.declared.sink.RowSink.{Ghosts}
use Rattle.scatter.specs.Feeds.{FeedValue}
use Rattle.scatter.specs.Lines.{Lines, root_rows, root_feeds}
use Rattle.scatter.specs.Phases.{Turn, TookWhole, IsServed, HasSent}
use Rattle.feed_actions.specs.Sinks.{number_at, added, summed}
use Rattle.scatter.specs.Told.{AreTold, arriving}
use Rattle.scatter.proofs.Arriving.{sink_before, sink_after, IsToldTurn, all_back, told_turns, arrived, arrived_is, whole_rows}

add_more : (a b x y : ℕ) → a % 2 ^ 64 ≡ x % 2 ^ 64 → b % 2 ^ 64 ≡ y % 2 ^ 64 → (a + b) % 2 ^ 64 ≡ (x + y) % 2 ^ 64
add_more a b x y p q = omega (arith, p, q)

from_none : (n x y : ℕ) → n ≡ 0 → y % 2 ^ 64 ≡ (n + x) % 2 ^ 64 → y % 2 ^ 64 ≡ x % 2 ^ 64
from_none n x y none is = omega (arith, none, is)

module _ {S R : Type 0} (g : Ghosts S HandValue R) (sum_of column_of : S → ℕ)
    (adds : (s t : S) (rows : List Row) → g.took s rows t → summed (sum_of s) (added (column_of s) rows) (sum_of t)) (column : ℕ) where
  abbrev IsFresh : S → Type 0
  IsFresh s = (sum_of s ≡ 0) × (column_of s ≡ column)

  sum_one : (t : Turn S) → TookWhole g t → IsToldTurn t → IsFresh t.sink → sum_of t.took % 2 ^ 64 ≡ added column (rows_from t.feed.ops t.feed.left) % 2 ^ 64
  sum_one t w told fresh =
      let took = adds t.sink t.took (rows_from t.feed.ops w.sent.rows) w.sent.took in
      let rows = whole_rows g t w told in
      from_none (sum_of t.sink) (added (column_of t.sink) (rows_from t.feed.ops w.sent.rows)) (sum_of t.took) fresh.0 took
      ∙ ap (λ k. added k (rows_from t.feed.ops w.sent.rows) % 2 ^ 64) fresh.1
      ∙ ap (λ l. added column (rows_from t.feed.ops l) % 2 ^ 64) (sym rows)

  sum_turns : (turns : List (Turn S)) (now : List HandValue) → AllZip (IsServed g) turns now → All IsToldTurn turns → All (λ (t : Turn S). IsFresh t.sink) turns
      → sum_by sum_of (map sink_after turns) % 2 ^ 64 ≡ added column (arrived turns) % 2 ^ 64
  sum_turns [] [] all told fresh = refl
  sum_turns [] (b ∷ now) all told fresh = absurd all
  sum_turns (t ∷ turns) [] all told fresh = absurd all
  sum_turns (t ∷ turns) (b ∷ now) all told fresh =
      let F : Turn S → Type 0 = λ t. IsFresh t.sink in
      let here = sum_one t all.0.whole (All-head IsToldTurn t turns told) (All-head F t turns fresh) in
      let rest = sum_turns turns now all.1 (All-tail IsToldTurn t turns told) (All-tail F t turns fresh) in
      ap (λ n. n % 2 ^ 64) (sum_by-cons sum_of t.took (map sink_after turns))
      ∙ add_more (sum_of t.took) (sum_by sum_of (map sink_after turns)) (added column (rows_from t.feed.ops t.feed.left)) (added column (arrived turns)) here rest
      ∙ ap (λ n. n % 2 ^ 64) (sym (sum_by-append (number_at column) (rows_from t.feed.ops t.feed.left) (arrived turns)))

  pub summed_all : (lines : Lines) (workers : ℕ) (root : Root) (last : _) (ops : List LocalOp) (sinks : List S) (hands : List HandValue) (took : List S) (now : List HandValue)
      → flat_map (λ (f : FeedValue). f.left) (root_feeds lines workers root last ops) ≡ root_rows lines root → All IsFresh sinks
      → HasSent g (root_feeds lines workers root last ops) sinks hands took now → AreTold root hands → sum_by sum_of took % 2 ^ 64 ≡ column_sum column (arriving lines root ops)
  summed_all lines workers root last ops sinks hands took now joined fresh sent told =
      let are = sent.are in
      let all_told = told_turns lines workers root last ops hands sent.turns are.feeds_are are.hands_are told in
      let all_fresh = all_back sink_before IsFresh sent.turns (subst (λ ss. All IsFresh ss) (sym are.sinks_are) fresh) in
      ap (λ ss. sum_by sum_of ss % 2 ^ 64) (sym are.took_is) ∙ sum_turns sent.turns now sent.all all_told all_fresh
      ∙ ap (λ rows. added column rows % 2 ^ 64) (arrived_is lines workers root last ops sent.turns are.feeds_are joined)

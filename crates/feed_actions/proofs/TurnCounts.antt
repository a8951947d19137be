-- What sinks that count come to, over the turns of all workers.
use Rattle.std.proofs.Common.{◌≡◌, ℕ, ◌+◌, ◌<◌, List, [], ◌∷◌, ◌++◌, map, length, Some, refl, sym, ap, ◌∙◌, arith, length-append}
use Rattle.std.specs.Prelude.{All, slice_get}
use Rattle.std.specs.List.{AllZip, sum_by}
use Rattle.std.proofs.lemmas.List.Elements.{All-head, All-tail}
use Rattle.std.proofs.lemmas.List.Sums.{sum_by-cons}
use Rattle.std.proofs.lemmas.List.Concat.{flat_map-append}
use Rattle.row_defs.specs.Limits.{most_rows}
use Rattle.row_defs.specs.Rows.{Row}
use Rattle.row_defs.specs.LocalOps.{rows_through}
use Rattle.block_pool.specs.Handles.{HandValue}
use Rattle.lop_chain.specs.Ops.{rows_from}
use Rattle.lop_chain.specs.declared.sink.RowSink.{Ghosts}
use Rattle.scatter.specs.Sends.{IsCutOff}
use Rattle.scatter.specs.Phases.{Turn, TookWhole, IsServed}
use Rattle.scatter.proofs.Arriving.{sink_after, IsToldTurn, arrived, arrived_at, whole_rows}

module _ {S R : Type 0} (g : Ghosts S HandValue R) (counted : S → ℕ) (counts : (s t : S) (rows : List Row) → g.took s rows t → counted t ≡ counted s + length rows) where
  abbrev pub IsNone : Turn S → Type 0
  IsNone t = counted t.sink ≡ 0

  pub count_one : (t : Turn S) → TookWhole g t → IsToldTurn t → IsNone t → counted t.took ≡ length (rows_from t.feed.ops t.feed.left)
  count_one t w told none =
      let more = counts t.sink t.took (rows_from t.feed.ops w.sent.rows) w.sent.took in
      let rows = whole_rows g t w told in
      more ∙ ap (λ n. n + length (rows_from t.feed.ops w.sent.rows)) none ∙ omega arith ∙ ap (λ l. length (rows_from t.feed.ops l)) (sym rows)

  pub count_all : (turns : List (Turn S)) (now : List HandValue) → AllZip (IsServed g) turns now → All IsToldTurn turns → All IsNone turns
      → sum_by counted (map sink_after turns) ≡ length (arrived turns)
  count_all [] [] all told none = refl
  count_all [] (b ∷ now) all told none = absurd all
  count_all (t ∷ turns) [] all told none = absurd all
  count_all (t ∷ turns) (b ∷ now) all told none =
      let here = count_one t all.0.whole (All-head IsToldTurn t turns told) (All-head IsNone t turns none) in
      let rest = count_all turns now all.1 (All-tail IsToldTurn t turns told) (All-tail IsNone t turns none) in
      let sum = sum_by-cons counted t.took (map sink_after turns) in
      let both = length-append (rows_from t.feed.ops t.feed.left) (arrived turns) in
      omega arith

  -- a sink that refused a row after as many as may arrive
  pub too_many : (turns : List (Turn S)) (rank : ℕ) (t : Turn S) (e : R) → slice_get turns rank ≡ Some t → IsCutOff g t.feed t.sink t.hand e t.left t.took t.met
      → ((s : S) (a : HandValue) (row : Row) (e : R) (u : S) (b : HandValue) → g.refused s a row e u b → counted s ≡ most_rows) → IsToldTurn t → IsNone t → most_rows < length (arrived turns)
  too_many turns rank t e at cut full told none =
      let all = arrived_at turns rank t at in
      let took = counts t.sink cut.at cut.prefix cut.took in
      let many = full cut.at t.hand cut.next e t.took t.met cut.refused in
      let parts : length (rows_from t.feed.ops cut.rows) ≡ length (cut.prefix ++ cut.next ∷ cut.back) = ap length cut.parts in
      let two = length-append cut.prefix (cut.next ∷ cut.back) in
      let given : rows_from t.feed.ops t.feed.left ≡ rows_from t.feed.ops cut.rows ++ rows_from t.feed.ops t.left.left =
      ap (rows_from t.feed.ops) (cut.gives.told told) ∙ flat_map-append (rows_through t.feed.ops) cut.rows t.left.left in
      let long : length (rows_from t.feed.ops t.feed.left) ≡ length (rows_from t.feed.ops cut.rows ++ rows_from t.feed.ops t.left.left) = ap length given in
      let sum = length-append (rows_from t.feed.ops cut.rows) (rows_from t.feed.ops t.left.left) in
      omega arith

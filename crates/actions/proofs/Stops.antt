-- Why an action wasn't done.
use Rattle.std.proofs.Common.{◌≡◌, ℕ, ◌<◌, ◌≤◌, List, [], ◌++◌, length, Result, Ok, Err, OnOk, IfErr, inl, inr, refl, sym, ap, subst, ◌∙◌, append-nil}
use Rattle.std.specs.List.{AllZip}
use Rattle.std.proofs.lemmas.List.Concat.{flat_map-append}
use Rattle.row_defs.specs.Limits.{most_rows}
use Rattle.row_defs.specs.Rows.{Row}
use Rattle.row_defs.specs.LocalOps.{LocalOp}
use Rattle.row_defs.specs.Operands.{Root}
use Rattle.row_defs.specs.Printed.{row_text}
use Rattle.dia_edge.specs.Sinks.{TookAll, TookPrefix, Puts}
use Rattle.dia_edge.specs.declared.refusals.Failed.{Failed}
use Rattle.dia_edge.specs.declared.sink.Sink.{Ghosts}
use Rattle.dia_edge.proofs.SinkLemmas.{puts_then, puts_all, prefix_longer, but_prefix}
use Rattle.block_pool.specs.Handles.{HandValue, Follows}
use Rattle.scatter.specs.declared.feed_err.FeedErr.{FeedErr}
use Rattle.scatter.specs.declared.feed_err.FeedErr.TheVariants as feeds
use Rattle.scatter.specs.Lines.{Lines}
use Rattle.feed_print.specs.Printing.{texts_of_rows, printed}
use Rattle.feed_actions.specs.declared.counter.TooManyRows.{TooManyRows}
use Rattle.feed_actions.specs.declared.action.ActErr.{ActErr}
use Rattle.feed_actions.specs.declared.action.ActErr.TheVariants as errors
use Rattle.scatter.specs.Told.{AreTold, arriving}
use Rattle.feed_actions.specs.Counting.{CountRefused}
use Rattle.feed_actions.specs.Acting.{act_refusal, ActRefused}
use Rattle.actions.specs.Printing.{PrintedAll, PrintedFirst, NotAllPrinted}
use Rattle.actions.specs.Acting.{IsBegun, IsCutOff, ActStopped, print_refusal}
use Rattle.scatter.proofs.Hands.{all_tell, hit_since}
use Rattle.scatter.proofs.SameLines.{arriving_still, told_still}

-- printing ------------------------------------------------------------------------------------------------------------------

-- what waited was put behind the texts before it
whole : {S : Type 0} (g : Ghosts S) (old mid new : S) (text w now : List ℕ) (result : Result (Unit {0}) ActErr) → Puts g.taken g.faults old mid text w printed
    → Puts g.taken g.faults mid new w now result → Puts g.taken g.faults old new text now result
whole g old mid new text w now result p q =
    let Last : List ℕ → Type 0 = λ piece. Puts g.taken g.faults mid new piece now result in
    let All : List ℕ → Type 0 = λ piece. Puts g.taken g.faults old new piece now result in
    subst All (append-nil text) (puts_then {D = Failed} g.taken g.faults old mid new text w [] now tt result p (subst Last (sym (append-nil w)) q))

module _ {S : Type 0} (g : Ghosts S) (lines : Lines) (root : Root) (ops : List LocalOp) (hands later : List HandValue) (old : S)
    (few : AreTold root hands → length (arriving lines root ops) ≤ most_rows) where
  pub flushed_text : (mid new : S) (w now : List ℕ) (result : Result (Unit {0}) ActErr) → PrintedAll g (AreTold root hands) (arriving lines root ops) old mid [] w
      → Puts g.taken g.faults mid new w now result → OnOk result (now ≡ [])
      → OnOk result (AreTold root hands → TookAll (g.taken old) (texts_of_rows (arriving lines root ops)) (g.taken new))
  flushed_text mid new w now (Ok done) p q none = λ told.
      let All : List ℕ → Type 0 = λ rest. Puts {E = ActErr} g.taken g.faults old new (texts_of_rows p.made) rest (Ok done) in
      subst (λ rows. TookAll (g.taken old) (texts_of_rows rows) (g.taken new)) (sym (p.all told))
      (puts_all {E = ActErr} g.taken g.faults old new (texts_of_rows p.made) done (subst All none (whole g old mid new (texts_of_rows p.made) w now (Ok done) p.puts q)))
  flushed_text mid new w now (Err e) p q none = tt

  pub flushed_stops : (mid new : S) (w now : List ℕ) (result : Result (Unit {0}) ActErr) → PrintedAll g (AreTold root hands) (arriving lines root ops) old mid [] w
      → Puts g.taken g.faults mid new w now result → IfErr result (λ e. e ≡ errors.Write (g.faults new))
      → IfErr result (ActStopped g lines root ops texts_of_rows hands later old new)
  flushed_stops mid new w now (Ok done) p q is = tt
  flushed_stops mid new w now (Err e) p q is =
      let all = whole g old mid new (texts_of_rows p.made) w now (Err e) p.puts q in
      let begun : IsBegun g lines root ops texts_of_rows hands old new = λ told.
      (few told, subst (λ rows. TookPrefix (g.taken old) (texts_of_rows rows) (g.taken new)) (sym (p.all told)) all.failed) in
      subst (λ x. ActStopped g lines root ops texts_of_rows hands later old new x) (sym is) (begun, (all.rose, refl))

  begun_of : (new : S) (made rest : List Row) → (AreTold root hands → arriving lines root ops ≡ made ++ rest) → TookPrefix (g.taken old) (texts_of_rows made) (g.taken new)
      → IsBegun g lines root ops texts_of_rows hands old new
  begun_of new made rest first took = λ told.
      let Took : List ℕ → Type 0 = λ text. TookPrefix (g.taken old) text (g.taken new) in
      let text : texts_of_rows made ++ texts_of_rows rest ≡ texts_of_rows (arriving lines root ops) = sym (flat_map-append row_text made rest) ∙ ap texts_of_rows (sym (first told)) in
      (few told, subst Took text (prefix_longer (g.taken old) (g.taken new) (texts_of_rows made) (texts_of_rows rest) took))

  begun_first : (new : S) (w : List ℕ) → PrintedFirst g (AreTold root hands) (arriving lines root ops) old new [] w printed → IsBegun g lines root ops texts_of_rows hands old new
  begun_first new w p = begun_of new p.made p.rest p.first (but_prefix (g.taken old) (g.taken new) (texts_of_rows p.made) w p.puts.ok)

  pub print_stops : (new : S) (w : List ℕ) (e : FeedErr Failed) → NotAllPrinted g (AreTold root hands) (arriving lines root ops) hands old [] e later new w
      → ActStopped g lines root ops texts_of_rows hands later old new (print_refusal (g.faults new) e)
  print_stops new w (feeds.Sink e) p = (begun_of new p.made p.rest p.first p.puts.failed, (p.puts.rose, refl))
  print_stops new w (feeds.Disk count) p = (p.1, inr (begun_first new w p.0))
  print_stops new w feeds.Damaged p = (p.1, inr (begun_first new w p.0))
  print_stops new w feeds.NoMemory p = inr (begun_first new w p)

  pub print_counts : (new : S) (w : List ℕ) (e : FeedErr Failed) → NotAllPrinted g (AreTold root hands) (arriving lines root ops) hands old [] e later new w → g.faults old ≤ g.faults new
  print_counts new w (feeds.Sink e) p = p.puts.counts
  print_counts new w (feeds.Disk count) p = p.0.puts.counts
  print_counts new w feeds.Damaged p = p.0.puts.counts
  print_counts new w feeds.NoMemory p = p.puts.counts

-- counting ------------------------------------------------------------------------------------------------------------------

module _ {S : Type 0} (g : Ghosts S) (root : Root) (ops : List LocalOp) (text : List Row → List ℕ) where
  pub check_stops : (lines : Lines) (hands now : List HandValue) (old : S) (e : FeedErr TooManyRows) → CountRefused lines root ops hands now e
      → ActStopped g lines root ops text hands now old old (act_refusal e)
  check_stops lines hands now old (feeds.Sink e) p = (p, refl)
  check_stops lines hands now old (feeds.Disk count) p = (p, inl refl)
  check_stops lines hands now old feeds.Damaged p = (p, inl refl)
  check_stops lines hands now old feeds.NoMemory p = inl refl

  pub number_stops : (lines : Lines) (hands now : List HandValue) (old new : S) (e : ActErr) → ActRefused g lines root ops text hands now old new e
      → ActStopped g lines root ops text hands now old new e
  number_stops lines hands now old new (errors.Disk count) p = (p.0, inl p.1)
  number_stops lines hands now old new errors.Damaged p = (p.0, inl p.1)
  number_stops lines hands now old new errors.NoMemory p = inl p
  number_stops lines hands now old new errors.TooManyRows p = p
  number_stops lines hands now old new (errors.Write count) p = p

  -- after a phase that left the lines as they were
  module _ (lines mid : Lines) (same : (m : ℕ) → mid m ≡ lines m) (hands met now : List HandValue) (follow : AllZip Follows hands met) (old new : S) where
    begun_since : IsBegun g mid root ops text met old new → IsBegun g lines root ops text hands old new
    begun_since begun = λ told.
        subst (λ rows. (length rows ≤ most_rows) × TookPrefix (g.taken old) (text rows) (g.taken new)) (arriving_still lines mid same root ops) (begun (told_still root hands met follow told))

    cut_since : IsCutOff g mid root ops text met old new → IsCutOff g lines root ops text hands old new
    cut_since (inl is) = inl is
    cut_since (inr begun) = inr (begun_since begun)

    pub stops_since : (e : ActErr) → ActStopped g mid root ops text met now old new e → ActStopped g lines root ops text hands now old new e
    stops_since (errors.Disk count) p = (hit_since hands met now count follow p.0, cut_since p.1)
    stops_since errors.Damaged p = ((λ tells. p.0 (all_tell hands met follow tells)), cut_since p.1)
    stops_since errors.NoMemory p = cut_since p
    stops_since errors.TooManyRows p =
        ((λ told. subst (λ rows. most_rows < length rows) (arriving_still lines mid same root ops) (p.0 (told_still root hands met follow told))), p.1)
    stops_since (errors.Write count) p = (begun_since p.0, p.1)

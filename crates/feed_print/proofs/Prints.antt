-- What a printer took of a feed's rows.
use Rattle.std.proofs.Common.{◌≡◌, ℕ, List, ◌∷◌, ◌++◌, Option, Result, Ok, Err, OnOk, IfErr, append_assoc, sym, ap, ◌∙◌, subst}
use Rattle.std.proofs.lemmas.List.Concat.{flat_map-append}
use Rattle.row_defs.specs.Rows.{Row}
use Rattle.row_defs.specs.Printed.{row_text}
use Rattle.dia_edge.specs.declared.refusals.Failed.{Failed}
use Rattle.dia_edge.specs.declared.sink.Sink as sinks
use Rattle.dia_edge.specs.Sinks.{Puts}
use Rattle.text_out.proofs.PutLemmas.{puts_more, puts_less}
use Rattle.block_pool.specs.Handles.{PoolName, HandValue}
use Rattle.lop_chain.specs.Ops.{rows_from}
use Rattle.lop_chain.specs.declared.sink.RowSink as rows
use Rattle.scatter.specs.declared.feed_err.FeedErr.{FeedErr}
use Rattle.scatter.specs.declared.feed_err.FeedErr.TheVariants.{Sink, Disk, Damaged, NoMemory}
use Rattle.scatter.specs.Feeds.{FeedValue}
use Rattle.scatter.specs.Sends.{IsSent, IsCutOff, Unsent}
use Rattle.feed_print.specs.Printing.{texts_of_rows, printed, refused, PrintedSome, NotPrinted, Prints}

-- some rows were printed, and then a prefix of the next
prints_some : {S : Type 0} (taken : S → Option (List ℕ)) (faults : S → ℕ) (a m c : S) (w v u : List ℕ) (all prefix : List Row) (next : Row) (back : List Row) (e : Failed)
    → all ≡ prefix ++ next ∷ back → Puts taken faults a m (w ++ texts_of_rows prefix) v printed → Puts taken faults m c (v ++ row_text next) u (refused e)
    → Puts taken faults a c (w ++ texts_of_rows all) u (refused e)
prints_some taken faults a m c w v u all prefix next back e parts before cut =
    let Put : List ℕ → Type 0 = λ t. Puts taken faults a c (w ++ t) u (refused e) in
    let texts : texts_of_rows all ≡ (texts_of_rows prefix ++ row_text next) ++ texts_of_rows back =
    ap texts_of_rows parts ∙ flat_map-append row_text prefix (next ∷ back) ∙ sym (append_assoc (texts_of_rows prefix) (row_text next) (texts_of_rows back)) in
    subst Put (sym texts) (puts_less {T = Unit {0}} {D = Failed} taken faults a c w u u (texts_of_rows prefix ++ row_text next) (texts_of_rows back) e e
    (puts_more {D = Failed} taken faults a m c w v u (texts_of_rows prefix) (row_text next) tt (refused e) before cut))

module _ {S P : Type 0} (k : sinks.Ghosts S) (r : rows.Ghosts P HandValue Failed) (out : P → S) (waits : P → List ℕ)
    (took : (s t : P) (rows : List Row) → r.took s rows t → Puts k.taken k.faults (out s) (out t) (waits s ++ texts_of_rows rows) (waits t) printed)
    (cut : (s : P) (a : HandValue) (row : Row) (e : Failed) (t : P) (b : HandValue) → r.refused s a row e t b → Puts k.taken k.faults (out s) (out t) (waits s ++ row_text row) (waits t) (refused e)) where
  sent_prints : (pool : PoolName) (f h : FeedValue) (s t : P) → IsSent r pool f s h t → PrintedSome k pool f h (out s) (out t) (waits s) (waits t) printed
  sent_prints pool f h s t p = record { rows = p.rows; gives = p.gives; puts = took s t (rows_from f.ops p.rows) p.took }

  cut_prints : (f h : FeedValue) (s t : P) (a b : HandValue) (e : Failed) → IsCutOff r f s a e h t b → PrintedSome k a.pool f h (out s) (out t) (waits s) (waits t) (refused e)
  cut_prints f h s t a b e p = record {
    rows = p.rows;
    gives = p.gives;
    puts = prints_some k.taken k.faults (out s) (out p.at) (out t) (waits s) (waits p.at) (waits t) (rows_from f.ops p.rows) p.prefix p.next p.back e p.parts
        (took s p.at p.prefix p.took) (cut p.at a p.next e t b p.refused);
  }

  unsent_prints : (f h : FeedValue) (s t : P) (a b : HandValue) (e : FeedErr Failed) → Unsent r f s a e h t b → NotPrinted k f a (out s) (waits s) e h b (out t) (waits t)
  unsent_prints f h s t a b (Sink e) p = cut_prints f h s t a b e p
  unsent_prints f h s t a b (Disk count) p = (sent_prints a.pool f h s t p.0, p.1)
  unsent_prints f h s t a b Damaged p = (sent_prints a.pool f h s t p.0, p.1)
  unsent_prints f h s t a b NoMemory p = sent_prints a.pool f h s t p

  pub all_prints : (f h : FeedValue) (s t : P) (a b : HandValue) (result : Result (Unit {0}) (FeedErr Failed))
      → OnOk result (IsSent r a.pool f s h t) → IfErr result (λ e. Unsent r f s a e h t b) → Prints k f a (out s) (waits s) result h b (out t) (waits t)
  all_prints f h s t a b (Ok done) p q = sent_prints a.pool f h s t p
  all_prints f h s t a b (Err e) p q = unsent_prints f h s t a b e q

-- How the texts of rows that a printer took add up.
use Rattle.std.specs.Prelude.{◌≡◌, ℕ, true, List, [], ◌++◌, Option, Result, Ok, Err}
use Rattle.std.proofs.Common.{sym, subst, append-nil}
use Rattle.std.specs.List.{flat_map}
use Rattle.std.proofs.lemmas.List.Concat.{flat_map-append}
use Rattle.row_defs.specs.Rows.{Row}
use Rattle.row_defs.specs.Printed.{row_text}
use Rattle.dia_edge.specs.declared.refusals.Failed.{Failed}
use Rattle.dia_edge.specs.Sinks.{Puts}
use Rattle.dia_edge.proofs.SinkLemmas.{puts_none}
use Rattle.text_out.proofs.PutLemmas.{puts_more}
use Rattle.dia_edge.specs.declared.sink.Sink.{Ghosts}
use Rattle.block_pool.specs.Handles.{PoolName, HandValue, HasHit}
use Rattle.lop_chain.specs.Ops.{rows_from}
use Rattle.scatter.specs.declared.feed_err.FeedErr.{FeedErr}
use Rattle.scatter.specs.declared.feed_err.FeedErr.TheVariants as feeds
use Rattle.scatter.specs.Feeds.{FeedValue}
use Rattle.scatter.specs.Sends.{GivesRows}

abbrev pub texts_of_rows : List Row → List ℕ
texts_of_rows rows = flat_map row_text rows

-- what a put of a row's text answers
abbrev pub printed : Result (Unit {0}) Failed
printed = Ok tt

abbrev pub refused : Failed → Result (Unit {0}) Failed
refused e = Err e

pub prints_none : {S : Type 0} (taken : S → Option (List ℕ)) (faults : S → ℕ) (sink : S) (waits : List ℕ) → Puts taken faults sink sink (waits ++ texts_of_rows []) waits printed
prints_none taken faults sink waits =
    let Put : List ℕ → Type 0 = λ xs. Puts taken faults sink sink xs waits printed in
    subst Put (sym (append-nil waits)) (puts_none taken faults sink waits tt)

pub prints_more : {S : Type 0} (taken : S → Option (List ℕ)) (faults : S → ℕ) (a b c : S) (w v u : List ℕ) (xs ys : List Row) (result : Result (Unit {0}) Failed)
    → Puts taken faults a b (w ++ texts_of_rows xs) v printed → Puts taken faults b c (v ++ texts_of_rows ys) u result
    → Puts taken faults a c (w ++ texts_of_rows (xs ++ ys)) u result
prints_more taken faults a b c w v u xs ys result p q =
    let Put : List ℕ → Type 0 = λ t. Puts taken faults a c (w ++ t) u result in
    subst Put (sym (flat_map-append row_text xs ys)) (puts_more taken faults a b c w v u (texts_of_rows xs) (texts_of_rows ys) tt result p q)

-- feeds ---------------------------------------------------------------------------------------------------------------

-- the texts of what was made of some rows of the feed were put behind what waited: these rows came first, and the others are left
pub record PrintedSome {S : Type 0} (g : Ghosts S) (pool : PoolName) (f h : FeedValue) (old new : S) (waits now : List ℕ) (result : Result (Unit {0}) Failed) : Type 0 where
  pub rows : List Row
  pub gives : GivesRows pool f rows h
  pub puts : Puts g.taken g.faults old new (waits ++ texts_of_rows (rows_from f.ops rows)) now result

-- why not all rows of the feed were printed, with the hand before and after
abbrev pub NotPrinted : {S : Type 0} → Ghosts S → FeedValue → HandValue → S → List ℕ → FeedErr Failed → FeedValue → HandValue → S → List ℕ → Type 0
NotPrinted g f a old waits (feeds.Sink e) h b new now = PrintedSome g a.pool f h old new waits now (refused e)
NotPrinted g f a old waits (feeds.Disk count) h b new now = PrintedSome g a.pool f h old new waits now printed × HasHit a.notes b.notes count
NotPrinted g f a old waits feeds.Damaged h b new now = PrintedSome g a.pool f h old new waits now printed × (a.pool.opening.tells ≡ true → ⊥)
NotPrinted g f a old waits feeds.NoMemory h b new now = PrintedSome g a.pool f h old new waits now printed

-- what a feed that is printed came to, with the feed and the hand before and after
abbrev pub Prints : {S : Type 0} → Ghosts S → FeedValue → HandValue → S → List ℕ → Result (Unit {0}) (FeedErr Failed) → FeedValue → HandValue → S → List ℕ → Type 0
Prints g f a old waits (Ok done) h b new now = PrintedSome g a.pool f h old new waits now printed
Prints g f a old waits (Err e) h b new now = NotPrinted g f a old waits e h b new now

-- An operand that was linked by routes to the owners of positions.
use Rattle.std.proofs.Common.{◌≡◌, ℕ, ◌+◌, ◌≤◌, Bool, true, zero, suc, List, [], ◌∷◌, length, map, sum, Some, sym, ap, ◌∙◌, arith}
use Rattle.std.specs.Prelude.{All, slice_get}
use Rattle.std.specs.List.{flat_map}
use Rattle.std.proofs.lemmas.List.{length-map}
use Rattle.std.proofs.lemmas.List.Sums.{sum_by-cons}
use Rattle.row_defs.specs.Limits.{most_rows}
use Rattle.row_defs.specs.declared.kind.Kind.{Kind}
use Rattle.row_defs.specs.Rows.{Row}
use Rattle.row_defs.specs.LocalOps.{LocalOp}
use Rattle.row_defs.specs.Operands.{Root, stored_root, count_root}
use Rattle.block_pool.specs.Handles.{HandValue}
use Rattle.multiplexer.specs.declared.inbox.Inbox.{Inbox}
use Rattle.exchange.specs.Serving.{Answered}
use Rattle.scatter.specs.Lines.{Lines}
use Rattle.scatter.specs.Told.{Tells, AreTold, arriving}
use Rattle.link.specs.Linking.{IsLinked, rows_sent}
use Rattle.link.specs.Refusals.{LinkRefused}
use Rattle.link.specs.declared.link_err.LinkErr.{LinkErr}
use Rattle.link.specs.declared.link_err.LinkErr.TheVariants.{Link, LinkBytes, Disk, Damaged, NoMemory, TooManyRows}
use Rattle.dealing.specs.Routes.{AreRoutes}
use Rattle.dealing.specs.Deals.{IsDealtByAll}
use Rattle.dealing.specs.Refusals.{DealRefused}
use Rattle.dealing.proofs.Owned.{senders_of, senders_count, senders_rows, owned, counted, come}

abbrev pub lengths : List (List Row) → List ℕ
lengths rows = map (λ (rs : List Row). length rs) rows

-- where the disks tell, so are the rows of any root told
pub told_by : (root : Root) (hands : List HandValue) → All Tells hands → AreTold root hands
told_by (stored_root n) hands tells = tells
told_by (count_root n rows) hands tells = tt

module _ (lines : Lines) (workers : ℕ) (root : Root) (ops : List LocalOp) (hands : List HandValue) where
  abbrev sent : List (List Row)
  sent = rows_sent lines workers root ops

  pub linked_dealt : {F : Type 0} (post : Answered F) (kinds : List Kind) (routes : List F) (carries : Bool) (boxes : List Inbox) (total before : ℕ) (counts : List ℕ)
      → AreRoutes post total workers before counts routes → length counts ≡ workers → before + sum counts ≤ total → flat_map (λ (rows : List Row). rows) sent ≡ arriving lines root ops
      → IsLinked post kinds routes sent (AreTold root hands) carries hands boxes
      → carries ≡ true → All Tells hands → counts ≡ lengths sent → IsDealtByAll kinds total workers before (sum counts) (arriving lines root ops) boxes
  linked_dealt post kinds routes carries boxes total before counts are long fits joined l carried tells is =
      let same : l.rows ≡ sent = l.are_sent (told_by root hands tells) in
      let lengths_are : counts ≡ lengths l.rows = is ∙ ap lengths (sym same) in
      let all : flat_map (λ (rows : List Row). rows) l.rows ≡ arriving lines root ops = ap (flat_map (λ (rows : List Row). rows)) same ∙ joined in
      let number : length l.rows ≡ workers = sym (length-map l.rows (λ (rs : List Row). length rs)) ∙ ap (λ (ns : List ℕ). length ns) (sym lengths_are) ∙ long in
      record {
        dealt = record {
          senders = senders_of l.rows l.to;
          count_is = ap (λ (rs : List Row). length rs) (sym all) ∙ counted post kinds counts l.rows lengths_are;
          rows_are = senders_rows post kinds routes l.rows l.to l.dealt ∙ all;
          owned = owned post kinds total workers before counts routes l.rows l.to l.dealt are lengths_are fits;
          come = come post kinds routes l.rows l.to boxes l.dealt (l.bytes carried tells);
        };
        number = senders_count post kinds routes l.rows l.to l.dealt ∙ number;
      }

  at_most : (rows : List (List Row)) (k : ℕ) (rs : List Row) → slice_get rows k ≡ Some rs → length rs ≤ sum (lengths rows)
  at_most [] k rs at = cc
  at_most (x ∷ rows) zero rs at =
      let same : x ≡ rs = cc in
      let more : sum (lengths (x ∷ rows)) ≡ length x + sum (lengths rows) = sum_by-cons (λ n. n) (length x) (lengths rows) in
      let here : length x ≡ length rs = ap (λ (l : List Row). length l) same in
      omega (arith, more, here)
  at_most (x ∷ rows) (suc k) rs at =
      let more : sum (lengths (x ∷ rows)) ≡ length x + sum (lengths rows) = sum_by-cons (λ n. n) (length x) (lengths rows) in
      let rest = at_most rows k rs at in
      omega (arith, more, rest)

  pub link_refused : (carries : Bool) (faults faults_now : ℕ) (now : List HandValue) (counts : List ℕ) (e : LinkErr) → sum counts ≤ most_rows → (All Tells hands → counts ≡ lengths sent)
      → LinkRefused sent (AreTold root hands) carries faults faults_now hands now e → DealRefused carries faults faults_now hands now e
  link_refused carries faults faults_now now counts (Link count) few is h = h
  link_refused carries faults faults_now now counts (LinkBytes at) few is h = h
  link_refused carries faults faults_now now counts (Disk count) few is h = h
  link_refused carries faults faults_now now counts Damaged few is h = h
  link_refused carries faults faults_now now counts NoMemory few is h = h
  link_refused carries faults faults_now now counts TooManyRows few is h = λ tells.
      let many = h (told_by root hands tells) in
      let le = at_most sent many.rank many.rows many.at in
      let same : sum counts ≡ sum (lengths sent) = ap sum (is tells) in
      let more = many.many in
      omega (arith, le, same, few, more)

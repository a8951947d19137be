-- The feeds of a root, before they are printed.
use Rattle.std.proofs.Common.{◌≡◌, ℕ, Bool, List, [], ◌∷◌, ◌++◌, map, length, refl, sym, ap, subst, ◌∙◌, arith}
use Rattle.std.specs.Prelude.{All}
use Rattle.std.specs.List.{AllZip}
use Rattle.std.proofs.lemmas.List.Concat.{flat_map-append}
use Rattle.std.proofs.lemmas.List.Elements.{All-head, All-tail}
use Rattle.row_defs.specs.Rows.{Row}
use Rattle.row_defs.specs.LocalOps.{LocalOp, AreSoundOps, rows_through}
use Rattle.row_defs.specs.Operands.{Root, stored_root, count_root}
use Rattle.block_pool.specs.Handles.{HandValue}
use Rattle.collective.specs.Shares.{shares_of}
use Rattle.lop_chain.specs.Rows.{Kinds}
use Rattle.lop_chain.specs.Ops.{rows_from}
use Rattle.scatter.specs.Feeds.{FeedValue, number_feed, number_rows}
use Rattle.scatter.specs.Lines.{Lines, root_rows, root_feeds}
use Rattle.scatter.specs.Stocks.{FeedsAreInPools}
use Rattle.scatter.specs.Phases.{pools_of}
use Rattle.scatter.specs.Begun.{IsNew}
use Rattle.scatter.proofs.Rooted.{FeedHasKinds, GoesThrough, feed_rows, root_ops}
use Rattle.scatter.specs.Told.{Tells, AreTold, HasPermit, arriving}
use Rattle.actions.specs.Printing.{rows_of_feeds, AreToldFeeds, CanPrint}

-- they may be printed
pub can_print : (kinds to : Kinds) (ops : List LocalOp) → AreSoundOps kinds ops to → (fs : List FeedValue) (hs : List HandValue)
    → All (FeedHasKinds kinds) fs → All (GoesThrough ops) fs → All IsNew fs → FeedsAreInPools (pools_of hs) fs → All HasPermit hs → AllZip CanPrint fs hs
can_print kinds to ops sound [] [] has through new own permits = tt
can_print kinds to ops sound [] (a ∷ hs) has through new own permits = absurd own
can_print kinds to ops sound (f ∷ fs) [] has through new own permits = absurd own
can_print kinds to ops sound (f ∷ fs) (a ∷ hs) has through new own permits =
    let n = All-head IsNew f fs new in
    let some = All-head HasPermit a hs permits in
    let is = All-head (FeedHasKinds kinds) f fs has in
    let goes = All-head (GoesThrough ops) f fs through in (
      record { kinds = to; sound = rw (is, goes) sound; own = own.0; permit = omega arith; fresh = n.0 },
      can_print kinds to ops sound fs hs (All-tail (FeedHasKinds kinds) f fs has) (All-tail (GoesThrough ops) f fs through) (All-tail IsNew f fs new) own.1 (All-tail HasPermit a hs permits),
    )

-- their rows are known
all_told : (fs : List FeedValue) (hs : List HandValue) → length fs ≡ length hs → All Tells hs → AreToldFeeds fs hs
all_told [] [] long tells = tt
all_told [] (a ∷ hs) long tells = absurd (omega (arith, long))
all_told (f ∷ fs) [] long tells = absurd (omega (arith, long))
all_told (f ∷ fs) (a ∷ hs) long tells = ((λ pins. All-head Tells a hs tells), all_told fs hs (omega (arith, long)) (All-tail Tells a hs tells))

numbers_told : (ops : List LocalOp) (shares : List (List Row)) (hs : List HandValue) → length (map (number_feed ops) shares) ≡ length hs → AreToldFeeds (map (number_feed ops) shares) hs
numbers_told ops [] [] long = tt
numbers_told ops [] (a ∷ hs) long = absurd (omega (arith, long))
numbers_told ops (share ∷ shares) [] long = absurd (omega (arith, long))
numbers_told ops (share ∷ shares) (a ∷ hs) long = ((λ pins. absurd (omega (arith, pins))), numbers_told ops shares hs (omega (arith, long)))

pub told_feeds : (lines : Lines) (workers : ℕ) (root : Root) (last : Bool) (ops : List LocalOp) (hs : List HandValue) → length (root_feeds lines workers root last ops) ≡ length hs
    → AreTold root hs → AreToldFeeds (root_feeds lines workers root last ops) hs
told_feeds lines workers (stored_root n) last ops hs long told = all_told (root_feeds lines workers (stored_root n) last ops) hs long told
told_feeds lines workers (count_root n rows) last ops hs long told = numbers_told ops (shares_of (number_rows 0 rows) workers workers) hs long

-- their rows, through the lines, are those that arrive
rows_through_all : (ops : List LocalOp) (fs : List FeedValue) → All (GoesThrough ops) fs → rows_of_feeds fs ≡ rows_from ops (feed_rows fs)
rows_through_all ops [] all = refl
rows_through_all ops (f ∷ fs) all =
    ap (λ o. rows_from o f.left ++ rows_of_feeds fs) (All-head (GoesThrough ops) f fs all)
    ∙ ap (λ rows. rows_from ops f.left ++ rows) (rows_through_all ops fs (All-tail (GoesThrough ops) f fs all))
    ∙ sym (flat_map-append (rows_through ops) f.left (feed_rows fs))

pub rows_arrive : (lines : Lines) (workers : ℕ) (root : Root) (last : Bool) (ops : List LocalOp) (fs : List FeedValue) → fs ≡ root_feeds lines workers root last ops
    → feed_rows fs ≡ root_rows lines root → rows_of_feeds fs ≡ arriving lines root ops
rows_arrive lines workers root last ops fs are joined =
    rows_through_all ops fs (subst (λ l. All (GoesThrough ops) l) (sym are) (root_ops lines workers root last ops)) ∙ ap (rows_from ops) joined

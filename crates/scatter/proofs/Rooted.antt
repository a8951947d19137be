-- The feeds of a line, and lines that keep what holds of each.
use Rattle.std.proofs.Common.{◌≡◌, ℕ, zero, suc, ◌<◌, Bool, true, false, List, [], ◌∷◌, ◌++◌, map, length, Option, None, Some, IsSome, inl, inr, refl, sym, ap, ◌∙◌, subst, arith, length-append}
use Rattle.std.proofs.lemmas.List.{length-map, length-replicate, length-set}
use Rattle.std.specs.Prelude.{All, slice_get, slice_set, replicate}
use Rattle.std.specs.List.{AllZip, filter_map, flat_map}
use Rattle.std.proofs.lemmas.List.Elements.{All-nil, All-cons, All-head, All-tail, All-replicate, All-set}
use Rattle.std.specs.Option.{option_map}
use Rattle.row_defs.specs.declared.kind.Kind.{Kind}
use Rattle.row_defs.specs.declared.kind.Kind.TheVariants.{Int}
use Rattle.row_defs.specs.Rows.{Row}
use Rattle.row_defs.specs.LocalOps.{LocalOp}
use Rattle.block_pool.specs.Handles.{PoolName, BlockValue}
use Rattle.dia_file.specs.Files.{FileValue, IsFileOf}
use Rattle.row_defs.specs.Operands.{Root, stored_root, count_root}
use Rattle.collective.specs.Shares.{share_of, shares_of}
use Rattle.collective.proofs.ShareLaws.{shares_joined}
use Rattle.scatter.specs.Feeds.{FeedValue, number_rows, part_feed, number_feed}
use Rattle.scatter.specs.Lines.{LineValue, Lines, Sets, HasKinds, first_kinds, with_parts, all_lent, files_in, files_of, HasRoot, root_rows, root_kinds, root_feeds, IsFedFrom}
use Rattle.scatter.specs.Stocks.{PartHasKinds, IsLine, AreLines, IsPartOf, AreInPools, FeedsAreInPools, IsToRestore}
use Rattle.scatter.specs.Phases.{IsRestored, IsUsed}
use Rattle.scatter.specs.Begun.{IsNew}

-- what holds of each line holds still where it holds of the one that changed
pub still : (P : LineValue → Type 0) (old now : Lines) (n : ℕ) (w : Option LineValue) → Sets old n w now
    → ((line : LineValue) → w ≡ Some line → P line)
    → ((m : ℕ) (line : LineValue) → old m ≡ Some line → P line)
    → (m : ℕ) (line : LineValue) → now m ≡ Some line → P line
still P old now n w sets here all m line there =
    elim (sets.others m) [
      | inl same ↦ here line (sym sets.here ∙ ap now (sym same) ∙ there)
      | inr other ↦ all m line (sym other ∙ there)
    ]

module _ {A : Type 0} where
  abbrev pub present : List (Option A) → List A
  present parts = filter_map (λ (part : Option A). part) parts

  not_lent : (parts : List (Option A)) → All IsSome (None ∷ parts) → ⊥
  not_lent parts all =
      let P : Option A → Type 0 = λ o. IsSome o in
      let none : P None = All-head P None parts all in
      cc

  -- no part is lent
  pub length-present : (parts : List (Option A)) → All IsSome parts → length (present parts) ≡ length parts
  length-present [] all = refl
  length-present (None ∷ parts) all = absurd (not_lent parts all)
  length-present (Some x ∷ parts) all = ap suc (length-present parts (All-tail IsSome (Some x) parts all))

-- of the parts of a line ..
pub present_kinds : (kinds : List Kind) (parts : List (Option FileValue)) → All (PartHasKinds kinds) parts → All (HasKinds kinds) (present parts)
present_kinds kinds [] all = All-nil (HasKinds kinds)
present_kinds kinds (None ∷ parts) all = present_kinds kinds parts (All-tail (PartHasKinds kinds) None parts all)
present_kinds kinds (Some f ∷ parts) all =
    All-cons (HasKinds kinds) f (present parts) (All-head (PartHasKinds kinds) (Some f) parts all) (present_kinds kinds parts (All-tail (PartHasKinds kinds) (Some f) parts all))

abbrev pub FeedHasKinds : List Kind → FeedValue → Type 0
FeedHasKinds kinds f = f.kinds ≡ kinds

part_kinds : (last : Bool) (ops : List LocalOp) (f : FileValue) → (part_feed last ops f).kinds ≡ f.kinds
part_kinds true ops f = refl
part_kinds false ops f = refl

part_left : (last : Bool) (ops : List LocalOp) (f : FileValue) → (part_feed last ops f).left ≡ f.rows
part_left true ops f = refl
part_left false ops f = refl

part_blocks : (last : Bool) (ops : List LocalOp) (f : FileValue) → (part_feed last ops f).blocks ≡ f.blocks
part_blocks true ops f = refl
part_blocks false ops f = refl

pub feeds_kinds : (kinds : List Kind) (last : Bool) (ops : List LocalOp) (files : List FileValue) → All (HasKinds kinds) files → All (FeedHasKinds kinds) (map (part_feed last ops) files)
feeds_kinds kinds last ops [] all = All-nil (FeedHasKinds kinds)
feeds_kinds kinds last ops (f ∷ files) all =
    All-cons (FeedHasKinds kinds) (part_feed last ops f) (map (part_feed last ops) files) (part_kinds last ops f ∙ All-head (HasKinds kinds) f files all)
    (feeds_kinds kinds last ops files (All-tail (HasKinds kinds) f files all))

abbrev pub feed_rows : List FeedValue → List Row
feed_rows feeds = flat_map (λ (f : FeedValue). f.left) feeds

pub feeds_rows : (last : Bool) (ops : List LocalOp) (files : List FileValue) → feed_rows (map (part_feed last ops) files) ≡ flat_map (λ (f : FileValue). f.rows) files
feeds_rows last ops [] = refl
feeds_rows last ops (f ∷ files) =
    ap (λ rows. rows ++ feed_rows (map (part_feed last ops) files)) (part_left last ops f) ∙ ap (λ rows. f.rows ++ rows) (feeds_rows last ops files)

pub feeds_pools : (pools : List PoolName) (last : Bool) (ops : List LocalOp) (parts : List (Option FileValue)) → All IsSome parts → AllZip IsPartOf pools parts → FeedsAreInPools pools (map (part_feed last ops) (present parts))
feeds_pools [] last ops [] all zip = tt
feeds_pools [] last ops (part ∷ parts) all zip = absurd zip
feeds_pools (pool ∷ pools) last ops [] all zip = absurd zip
feeds_pools (pool ∷ pools) last ops (None ∷ parts) all zip = absurd (not_lent parts all)
feeds_pools (pool ∷ pools) last ops (Some f ∷ parts) all zip =
    (rw (part_blocks last ops f) zip.0, feeds_pools pools last ops parts (All-tail IsSome (Some f) parts all) zip.1)

-- .. and of the shares of numbers
pub length-shares : {A : Type 0} (xs : List A) (workers n : ℕ) → length (shares_of xs workers n) ≡ n
length-shares xs workers zero = refl
length-shares xs workers (suc n) =
    let one = length-append (shares_of xs workers n) (share_of xs workers n ∷ []) in
    let before : length (shares_of xs workers n) ≡ n = length-shares xs workers n in
    omega (arith, one, before)

pub numbers_kinds : (ops : List LocalOp) (shares : List (List Row)) → All (FeedHasKinds (Int ∷ [])) (map (number_feed ops) shares)
numbers_kinds ops [] = All-nil (FeedHasKinds (Int ∷ []))
numbers_kinds ops (share ∷ shares) = All-cons (FeedHasKinds (Int ∷ [])) (number_feed ops share) (map (number_feed ops) shares) refl (numbers_kinds ops shares)

pub numbers_rows : (ops : List LocalOp) (shares : List (List Row)) → feed_rows (map (number_feed ops) shares) ≡ flat_map (λ share. share) shares
numbers_rows ops [] = refl
numbers_rows ops (share ∷ shares) = ap (λ rows. share ++ rows) (numbers_rows ops shares)

pub numbers_pools : (pools : List PoolName) (ops : List LocalOp) (shares : List (List Row)) → length pools ≡ length shares → FeedsAreInPools pools (map (number_feed ops) shares)
numbers_pools [] ops [] len = tt
numbers_pools [] ops (share ∷ shares) len = absurd (omega (arith, len))
numbers_pools (pool ∷ pools) ops [] len = absurd (omega (arith, len))
numbers_pools (pool ∷ pools) ops (share ∷ shares) len =
    (All-nil (λ (b : BlockValue). b.pool ≡ pool), numbers_pools pools ops shares (omega (arith, len)))

-- parts in pools
pub put_pools : (pools : List PoolName) (files : List FileValue) → AllZip IsFileOf pools files → AllZip IsPartOf pools (map (λ (f : FileValue). Some f) files)
put_pools [] [] zip = tt
put_pools [] (f ∷ files) zip = absurd zip
put_pools (pool ∷ pools) [] zip = absurd zip
put_pools (pool ∷ pools) (f ∷ files) zip = (zip.0, put_pools pools files zip.1)

pub lent_pools : (pools : List PoolName) (parts : List (Option FileValue)) → AllZip IsPartOf pools parts → AllZip IsPartOf pools (replicate (length parts) None)
lent_pools [] [] zip = tt
lent_pools [] (part ∷ parts) zip = absurd zip
lent_pools (pool ∷ pools) [] zip = absurd zip
lent_pools (pool ∷ pools) (part ∷ parts) zip = (tt, lent_pools pools parts zip.1)

pub back_pools : (pools : List PoolName) (parts : List (Option FileValue)) (rank : ℕ) (pool : PoolName) (f : FileValue) → slice_get pools rank ≡ Some pool → IsFileOf pool f
    → AllZip IsPartOf pools parts → AllZip IsPartOf pools (slice_set parts rank (Some f))
back_pools [] [] rank pool f at own zip = tt
back_pools [] (part ∷ parts) rank pool f at own zip = absurd zip
back_pools (p ∷ pools) [] rank pool f at own zip = absurd zip
back_pools (p ∷ pools) (part ∷ parts) zero pool f at own zip =
    let same : p ≡ pool = cc in
    (rw same own, zip.1)
back_pools (p ∷ pools) (part ∷ parts) (suc rank) pool f at own zip = (zip.0, back_pools pools parts rank pool f at own zip.1)

-- a line that is put
abbrev pub put_value : List FileValue → LineValue
put_value files = record { kinds = first_kinds files; parts = map (λ (f : FileValue). Some f) files }

all_put : (kinds : List Kind) (files : List FileValue) → All (HasKinds kinds) files → All (PartHasKinds kinds) (map (λ (f : FileValue). Some f) files)
all_put kinds [] all = All-nil (PartHasKinds kinds)
all_put kinds (f ∷ files) all =
    All-cons (PartHasKinds kinds) (Some f) (map (λ (f : FileValue). Some f) files) (All-head (HasKinds kinds) f files all) (all_put kinds files (All-tail (HasKinds kinds) f files all))

pub put_line : (workers : ℕ) (files : List FileValue) → length files ≡ workers → All (HasKinds (first_kinds files)) files → IsLine workers (put_value files)
put_line workers files len kinds = record { count = length-map files (λ (f : FileValue). Some f) ∙ len; kinds = all_put (first_kinds files) files kinds }

-- one whose parts are lent
pub lent_line : (workers : ℕ) (line : LineValue) → IsLine workers line → IsLine workers (all_lent line)
lent_line workers line is = record {
  count = length-replicate (length line.parts) None ∙ is.count;
  kinds = All-replicate (PartHasKinds line.kinds) (length line.parts) None tt;
}

-- and one of which a part is back
pub back_line : (workers : ℕ) (line : LineValue) (rank : ℕ) (f : FileValue) → line.kinds ≡ f.kinds → IsLine workers line → IsLine workers (with_parts line (slice_set line.parts rank (Some f)))
back_line workers line rank f kinds is = record {
  count = length-set line.parts rank (Some f) ∙ is.count;
  kinds = All-set (PartHasKinds line.kinds) line.parts rank (Some f) (sym kinds) is.kinds;
}

-- what holds of the one value holds of the line
pub only : (P : LineValue → Type 0) (a : LineValue) → P a → (line : LineValue) → Some a ≡ Some line → P line
only P a p line same = let e : a ≡ line = cc in subst P e p

-- the feeds of a root
module _ (lines : Lines) (workers : ℕ) (are : AreLines workers lines) (last : Bool) (ops : List LocalOp) where
  pub root_count : (root : Root) → HasRoot lines root → length (root_feeds lines workers root last ops) ≡ workers
  root_count (stored_root n) has =
      let is = are n has.line has.there in
      rw has.there (length-map (files_in has.line) (part_feed last ops) ∙ length-present has.line.parts has.whole ∙ is.count)
  root_count (count_root n rows) has = length-map (shares_of (number_rows 0 rows) workers workers) (number_feed ops) ∙ length-shares (number_rows 0 rows) workers workers

  pub root_kinds_are : (root : Root) → HasRoot lines root → All (FeedHasKinds (root_kinds lines root)) (root_feeds lines workers root last ops)
  root_kinds_are (stored_root n) has =
      let is = are n has.line has.there in
      rw has.there (feeds_kinds has.line.kinds last ops (files_in has.line) (present_kinds has.line.kinds has.line.parts is.kinds))
  root_kinds_are (count_root n rows) has = numbers_kinds ops (shares_of (number_rows 0 rows) workers workers)

  pub root_rows_are : 0 < workers → (root : Root) → feed_rows (root_feeds lines workers root last ops) ≡ root_rows lines root
  root_rows_are some (stored_root n) = feeds_rows last ops (files_of (lines n))
  root_rows_are some (count_root n rows) = numbers_rows ops (shares_of (number_rows 0 rows) workers workers) ∙ shares_joined (number_rows 0 rows) workers some

  pub root_pools : (pools : List PoolName) → length pools ≡ workers → AreInPools pools lines → (root : Root) → HasRoot lines root → FeedsAreInPools pools (root_feeds lines workers root last ops)
  root_pools pools len in_pools (stored_root n) has =
      rw has.there (feeds_pools pools last ops has.line.parts has.whole (in_pools n has.line has.there))
  root_pools pools len in_pools (count_root n rows) has =
      numbers_pools pools ops (shares_of (number_rows 0 rows) workers workers) (len ∙ sym (length-shares (number_rows 0 rows) workers workers))

-- what holds of each line, and of one whose parts are lent, holds after a root is fed
pub fed_still : (P : LineValue → Type 0) → ((line : LineValue) → P line → P (all_lent line)) → (lines now : Lines) (root : Root) (last : Bool) → HasRoot lines root → IsFedFrom lines root last now
    → ((m : ℕ) (line : LineValue) → lines m ≡ Some line → P line) → (m : ℕ) (line : LineValue) → now m ≡ Some line → P line
fed_still P lent lines now (stored_root n) true has fed all = still P lines now n None fed (λ line same. cc) all
fed_still P lent lines now (stored_root n) false has fed all =
    still P lines now n (option_map all_lent (lines n)) fed (λ line same.
    let one : option_map all_lent (lines n) ≡ Some (all_lent has.line) = ap (option_map all_lent) has.there in
    only P (all_lent has.line) (lent has.line (all n has.line has.there)) line (sym one ∙ same)) all
fed_still P lent lines now (count_root n rows) last has fed all = λ m line there. all m line (sym (ap (λ (f : Lines). f m) fed) ∙ there)

abbrev keeps : FeedValue → Option FileValue
keeps f = f.keeps

-- the files that feeds give back are the parts that were lent
keeps_parts : (ops : List LocalOp) (parts : List (Option FileValue)) → All IsSome parts → map keeps (map (part_feed false ops) (present parts)) ≡ parts
keeps_parts ops [] all = refl
keeps_parts ops (None ∷ parts) all = absurd (not_lent parts all)
keeps_parts ops (Some f ∷ parts) all = ap (λ l. Some f ∷ l) (keeps_parts ops parts (All-tail IsSome (Some f) parts all))

pub to_restore : (lines now : Lines) (workers : ℕ) (ops : List LocalOp) (root : Root) (last : Bool) → AreLines workers lines → HasRoot lines root → IsFedFrom lines root last now
    → IsToRestore root last now workers (map keeps (root_feeds lines workers root last ops))
to_restore lines now workers ops (stored_root n) true are has fed = tt
to_restore lines now workers ops (stored_root n) false are has fed =
    let is = are n has.line has.there in
    let parts : map keeps (map (part_feed false ops) (files_of (lines n))) ≡ has.line.parts =
    ap (λ line. map keeps (map (part_feed false ops) (files_of line))) has.there ∙ keeps_parts ops has.line.parts has.whole in
    let P : List (Option FileValue) → Type 0 = λ ps. IsLine workers (with_parts has.line ps) in
    let whole : P has.line.parts = record { count = is.count; kinds = is.kinds } in
    record {
      line = has.line;
      there = fed.here ∙ ap (option_map all_lent) has.there;
      is = subst P (sym parts) whole;
    }
to_restore lines now workers ops (count_root n rows) last are has fed = tt

-- feeds that have just begun
part_new : (last : Bool) (ops : List LocalOp) (f : FileValue) → IsNew (part_feed last ops f)
part_new true ops f = (refl, omega arith)
part_new false ops f = (refl, omega arith)

parts_new : (last : Bool) (ops : List LocalOp) (files : List FileValue) → All IsNew (map (part_feed last ops) files)
parts_new last ops [] = All-nil IsNew
parts_new last ops (f ∷ files) = All-cons IsNew (part_feed last ops f) (map (part_feed last ops) files) (part_new last ops f) (parts_new last ops files)

numbers_new : (ops : List LocalOp) (shares : List (List Row)) → All IsNew (map (number_feed ops) shares)
numbers_new ops [] = All-nil IsNew
numbers_new ops (share ∷ shares) = All-cons IsNew (number_feed ops share) (map (number_feed ops) shares) (refl, omega arith) (numbers_new ops shares)

pub root_new : (lines : Lines) (workers : ℕ) (root : Root) (last : Bool) (ops : List LocalOp) → All IsNew (root_feeds lines workers root last ops)
root_new lines workers (stored_root n) last ops = parts_new last ops (files_of (lines n))
root_new lines workers (count_root n rows) last ops = numbers_new ops (shares_of (number_rows 0 rows) workers workers)

-- and go through these lines
abbrev pub GoesThrough : List LocalOp → FeedValue → Type 0
GoesThrough ops f = f.ops ≡ ops

part_ops : (last : Bool) (ops : List LocalOp) (f : FileValue) → (part_feed last ops f).ops ≡ ops
part_ops true ops f = refl
part_ops false ops f = refl

parts_ops : (last : Bool) (ops : List LocalOp) (files : List FileValue) → All (GoesThrough ops) (map (part_feed last ops) files)
parts_ops last ops [] = All-nil (GoesThrough ops)
parts_ops last ops (f ∷ files) = All-cons (GoesThrough ops) (part_feed last ops f) (map (part_feed last ops) files) (part_ops last ops f) (parts_ops last ops files)

numbers_ops : (ops : List LocalOp) (shares : List (List Row)) → All (GoesThrough ops) (map (number_feed ops) shares)
numbers_ops ops [] = All-nil (GoesThrough ops)
numbers_ops ops (share ∷ shares) = All-cons (GoesThrough ops) (number_feed ops share) (map (number_feed ops) shares) refl (numbers_ops ops shares)

pub root_ops : (lines : Lines) (workers : ℕ) (root : Root) (last : Bool) (ops : List LocalOp) → All (GoesThrough ops) (root_feeds lines workers root last ops)
root_ops lines workers (stored_root n) last ops = parts_ops last ops (files_of (lines n))
root_ops lines workers (count_root n rows) last ops = numbers_ops ops (shares_of (number_rows 0 rows) workers workers)

-- these are a line's parts
abbrev pub IsWholeAgain : Lines → Root → Bool → List (Option FileValue) → Type 0
IsWholeAgain lines (stored_root n) false parts = (line : LineValue) → lines n ≡ Some line → parts ≡ line.parts
IsWholeAgain lines (stored_root n) true parts = Unit {0}
IsWholeAgain lines (count_root n rows) last parts = Unit {0}

pub whole_again : (lines : Lines) (workers : ℕ) (root : Root) (last : Bool) (ops : List LocalOp) (parts : List (Option FileValue)) → HasRoot lines root
    → parts ≡ map keeps (root_feeds lines workers root last ops) → IsWholeAgain lines root last parts
whole_again lines workers (stored_root n) true ops parts has is = tt
whole_again lines workers (stored_root n) false ops parts has is = λ line there.
    let both : Some has.line ≡ Some line = sym has.there ∙ there in
    let one : has.line ≡ line = cc in
    is ∙ ap (λ l. map keeps (map (part_feed false ops) (files_of l))) has.there ∙ keeps_parts ops has.line.parts has.whole ∙ ap (λ (l : LineValue). l.parts) one
whole_again lines workers (count_root n rows) last ops parts has is = tt

-- the lines after a root was fed and its parts are back
pub used : (lines mid now : Lines) (root : Root) (last : Bool) (workers : ℕ) (parts : List (Option FileValue)) → HasRoot lines root → IsFedFrom lines root last mid
    → IsToRestore root last mid workers parts → (parts_are : IsWholeAgain lines root last parts) → IsRestored root last mid parts now → IsUsed lines root last now
used lines mid now (stored_root n) true workers parts has fed lent same back = record {
  here = back n ∙ fed.here;
  others = λ m. elim (fed.others m) [ inl is ↦ inl is | inr other ↦ inr (back m ∙ other) ];
}
used lines mid now (stored_root n) false workers parts has fed lent same back =
    let there : mid n ≡ Some (all_lent has.line) = fed.here ∙ ap (option_map all_lent) has.there in
    let sets = back (all_lent has.line) there in
    let line : with_parts has.line parts ≡ has.line = ap (with_parts has.line) (same has.line has.there) in
    λ m. elim (sets.others m) [
      | inl is ↦ ap now is ∙ sets.here ∙ ap (λ l. Some l) line ∙ sym has.there ∙ ap lines (sym is)
      | inr other ↦ elim (fed.others m) [
        | inl is ↦ ap now is ∙ sets.here ∙ ap (λ l. Some l) line ∙ sym has.there ∙ ap lines (sym is)
        | inr same ↦ other ∙ same
      ]
    ]
used lines mid now (count_root n rows) last workers parts has fed lent same back = λ m. back m ∙ ap (λ (f : Lines). f m) fed

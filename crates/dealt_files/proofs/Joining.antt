-- Shares that are in files.
use Rattle.std.proofs.Common.{◌≡◌, ℕ, ◌+◌, ◌<◌, List, [], ◌∷◌, ◌++◌, length, zero, suc, Some, refl, sym, ap, subst, ◌∙◌, arith, append_assoc, append-nil}
use Rattle.std.specs.Prelude.{All, slice_get}
use Rattle.std.specs.List.{flat_map}
use Rattle.std.proofs.lemmas.List.Concat.{flat_map-append}
use Rattle.std.proofs.lemmas.List.Elements.{All-head, All-tail}
use Rattle.row_defs.specs.declared.kind.Kind.{Kind}
use Rattle.row_defs.specs.Rows.{Row}
use Rattle.block_pool.specs.Handles.{HandValue}
use Rattle.dia_file.specs.Cuts.{rows_of_files}
use Rattle.dia_file.specs.Files.{FileValue}
use Rattle.multiplexer.specs.declared.inbox.Inbox.{Inbox}
use Rattle.collective.specs.Shares.{share_of, shares_of}
use Rattle.scatter.specs.Phases.{AllThree}
use Rattle.scatter.specs.Told.{Tells}
use Rattle.arrival_files.specs.Receiving.{HasRowsOf, HoldAll, rows_received}
use Rattle.dealing.specs.Deals.{HoldsRows, HoldShares}

abbrev join : List (List Row) → List Row
join shares = flat_map (λ (share : List Row). share) shares

module _ (kinds : List Kind) (workers : ℕ) (rows : List Row) where
  -- the boxes from a rank on hold their shares
  abbrev HoldFrom : ℕ → List Inbox → Type 0
  HoldFrom n boxes = (j : ℕ) (x : Inbox) → slice_get boxes j ≡ Some x → HoldsRows kinds x (share_of rows workers (n + j))

  next : (n : ℕ) (x : Inbox) (boxes : List Inbox) → HoldFrom n (x ∷ boxes) → HoldFrom (n + 1) boxes
  next n x boxes h = λ j y at.
      let e : n + suc j ≡ n + 1 + j = omega arith in
      subst (λ (k : ℕ). HoldsRows kinds y (share_of rows workers k)) e (h (suc j) y at)

  first : (n : ℕ) (x : Inbox) (boxes : List Inbox) → HoldFrom n (x ∷ boxes) → HoldsRows kinds x (share_of rows workers n)
  first n x boxes h = let e : n + 0 ≡ n = omega arith in subst (λ (k : ℕ). HoldsRows kinds x (share_of rows workers k)) e (h 0 x refl)

  -- the files from a rank on have their shares
  files_from : (n : ℕ) (hands : List HandValue) (boxes : List Inbox) (files : List FileValue) → All Tells hands → HoldFrom n boxes → AllThree (HasRowsOf kinds) hands boxes files
      → join (shares_of rows workers n) ++ rows_of_files files ≡ join (shares_of rows workers (n + length files))
  files_from n [] [] [] tells held all = append-nil (join (shares_of rows workers n)) ∙ (let e : n ≡ n + 0 = omega arith in ap (λ (k : ℕ). join (shares_of rows workers k)) e)
  files_from n (a ∷ hands) (x ∷ boxes) (f ∷ files) tells held all =
      let own = first n x boxes held in
      let has : f.rows ≡ share_of rows workers n = all.0 (All-head Tells a hands tells) own.lists own.holds ∙ own.rows_are in
      let rest = files_from (n + 1) hands boxes files (All-tail Tells a hands tells) (next n x boxes held) all.1 in
      let share = share_of rows workers n in
      let s : n + 1 ≡ suc n = omega arith in
      let more : join (shares_of rows workers (n + 1)) ≡ join (shares_of rows workers n) ++ share =
      ap (λ (k : ℕ). join (shares_of rows workers k)) s ∙ flat_map-append (λ (share : List Row). share) (shares_of rows workers n) (share ∷ []) ∙ ap (λ (l : List Row). join (shares_of rows workers n) ++ l) (append-nil share) in
      let e : n + 1 + length files ≡ n + suc (length files) = omega arith in
      ap (λ (l : List Row). join (shares_of rows workers n) ++ (l ++ rows_of_files files)) has
      ∙ sym (append_assoc (join (shares_of rows workers n)) share (rows_of_files files))
      ∙ ap (λ (l : List Row). l ++ rows_of_files files) (sym more)
      ∙ rest ∙ ap (λ (k : ℕ). join (shares_of rows workers k)) e
  files_from n [] [] (f ∷ files) tells held all = absurd all
  files_from n [] (x ∷ boxes) files tells held all = absurd all
  files_from n (a ∷ hands) [] files tells held all = absurd all
  files_from n (a ∷ hands) (x ∷ boxes) [] tells held all = absurd all

  -- what the boxes from a rank on hold, in lists
  lists_from : (n : ℕ) (boxes : List Inbox) → HoldFrom n boxes
      → (all : List (List (List Row))) × HoldAll kinds boxes all × (join (shares_of rows workers n) ++ rows_received all ≡ join (shares_of rows workers (n + length boxes)))
  lists_from n [] held = ([], tt, append-nil (join (shares_of rows workers n)) ∙ (let e : n ≡ n + 0 = omega arith in ap (λ (k : ℕ). join (shares_of rows workers k)) e))
  lists_from n (x ∷ boxes) held =
      let own = first n x boxes held in
      let rest = lists_from (n + 1) boxes (next n x boxes held) in
      let share = share_of rows workers n in
      let s : n + 1 ≡ suc n = omega arith in
      let more : join (shares_of rows workers (n + 1)) ≡ join (shares_of rows workers n) ++ share =
      ap (λ (k : ℕ). join (shares_of rows workers k)) s ∙ flat_map-append (λ (share : List Row). share) (shares_of rows workers n) (share ∷ []) ∙ ap (λ (l : List Row). join (shares_of rows workers n) ++ l) (append-nil share) in
      let e : n + 1 + length boxes ≡ n + suc (length boxes) = omega arith in (
        own.lists ∷ rest.0,
        (own.holds, rest.1),
        ap (λ (l : List Row). join (shares_of rows workers n) ++ (l ++ rows_received rest.0)) own.rows_are
            ∙ sym (append_assoc (join (shares_of rows workers n)) share (rows_received rest.0))
            ∙ ap (λ (l : List Row). l ++ rows_received rest.0) (sym more)
            ∙ rest.2 ∙ ap (λ (k : ℕ). join (shares_of rows workers k)) e,
      )

  held_all : (boxes : List Inbox) → length boxes ≡ workers → HoldShares kinds workers rows boxes → HoldFrom 0 boxes
  held_all boxes long held = λ j x at.
      let below : j < workers = within boxes j x at long in
      let e : j ≡ 0 + j = omega arith in
      subst (λ (k : ℕ). HoldsRows kinds x (share_of rows workers k)) e (held j x below at)
    where
      within : (xs : List Inbox) (j : ℕ) (x : Inbox) → slice_get xs j ≡ Some x → length xs ≡ workers → j < workers
      within xs j x at long = let lt = before xs j x at in omega (arith, lt, long)
        where
          before : (xs : List Inbox) (j : ℕ) (x : Inbox) → slice_get xs j ≡ Some x → j < length xs
          before [] j x at = cc
          before (y ∷ xs) zero x at = omega arith
          before (y ∷ xs) (suc j) x at = let lt = before xs j x at in omega (arith, lt)

  module _ (law : join (shares_of rows workers workers) ≡ rows) where
    -- all files have all rows
    pub all_rows : (hands : List HandValue) (boxes : List Inbox) (files : List FileValue) → length boxes ≡ workers → length files ≡ workers → All Tells hands → HoldShares kinds workers rows boxes
        → AllThree (HasRowsOf kinds) hands boxes files → rows_of_files files ≡ rows
    all_rows hands boxes files long count tells held all =
        let e : 0 + length files ≡ workers = omega (arith, count) in
        files_from 0 hands boxes files tells (held_all boxes long held) all ∙ ap (λ (k : ℕ). join (shares_of rows workers k)) e ∙ law

    -- all boxes hold all rows
    pub all_held : (boxes : List Inbox) → length boxes ≡ workers → HoldShares kinds workers rows boxes → (all : List (List (List Row))) × HoldAll kinds boxes all × (rows_received all ≡ rows)
    all_held boxes long held =
        let it = lists_from 0 boxes (held_all boxes long held) in
        let e : 0 + length boxes ≡ workers = omega (arith, long) in
        (it.0, it.1, it.2 ∙ ap (λ (k : ℕ). join (shares_of rows workers k)) e ∙ law)

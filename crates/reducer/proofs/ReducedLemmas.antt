-- Rows reduced by key.
use Rattle.std.proofs.Common.{◌≡◌, ℕ, ◌<◌, ◌≤◌, length, zero, suc, Bool, true, false, cond, List, [], ◌∷◌, ◌++◌, drop, map, filter, Option, None, Some, refl, sym, ap, ap₂, ◌∙◌, subst, arith, IsPermutation}
use Rattle.std.specs.List.{AllByRecursion}
use Rattle.std.specs.Ordering.{ordering_reverse, ordering_then, eq_by_cmp, is_eq, MatchOrdering}
use Rattle.std.specs.declared.cmp.Ordering.{Ordering}
use Rattle.std.specs.declared.cmp.Ordering.TheVariants.{Less, Equal, Greater}
use Rattle.std.specs.Cmp.{IsTotalOrder, nat_cmp_total, ranks}
use Rattle.std.specs.Cmp.Lexicographic.{lists_total, nat_list_cmp_total, texts_ties, same_text}
use Rattle.std.proofs.lemmas.List.{map-append, append-nil}
use Rattle.std.proofs.lemmas.List.Elements.{filter-append}
use Rattle.std.proofs.lemmas.List.Sums.{fold-append}
use Rattle.std.proofs.lemmas.List.Sorted.{IsPermutation-map, IsPermutation-refl, IsPermutation-trans, IsPermutation-cons, IsPermutation-append_comm, IsPermutation-append_left}
use Rattle.row_defs.specs.Rows.{Cell, Row, int, text, cell_cmp, row_cmp, key_of}
use Rattle.fold_defs.specs.declared.named.Named.{Named}
use Rattle.fold_defs.specs.Folds.{commuting, folded, joined}
use Rattle.reducer.specs.Laws.{combined-assoc, combined-comm}
use Rattle.fold_defs.specs.Reduced.{cells_combined, has_key, rests, one_or_none}
use Rattle.reducer.specs.OneMore.{row_combined, with_row}
use Rattle.reducer.specs.Said.{ReducesMore, ReducesParts, ReducesInAnyOrder, ReducesToAnyOrder}
use Rattle.reducer.proofs.FoldLemmas.{along_permutation, folded-append, folded-permutation}

-- the order of rows ---------------------------------------------------------------------------------------------

turned : (x y : Cell) → cell_cmp x y ≡ ordering_reverse (cell_cmp y x)
turned (int m) (int n) = nat_cmp_total.antisymm m n
turned (int m) (text t) = refl
turned (text s) (int n) = refl
turned (text s) (text t) = nat_list_cmp_total.antisymm s t

passed : (x y z : Cell) → cell_cmp x y ≡ Less → cell_cmp y z ≡ Less → cell_cmp x z ≡ Less
passed (int l) (int m) (int n) p q = nat_cmp_total.trans l m n p q
passed (int l) (int m) (text t) p q = refl
passed (int l) (text s) (int n) p q = grind arith
passed (int l) (text s) (text t) p q = refl
passed (text r) (int m) z p q = grind arith
passed (text r) (text s) (int n) p q = grind arith
passed (text r) (text s) (text t) p q = nat_list_cmp_total.trans r s t p q

tied : (x y z : Cell) → cell_cmp x y ≡ Equal → cell_cmp x z ≡ cell_cmp y z
tied (int l) (int m) (int n) p = nat_cmp_total.congr l m n p
tied (int l) (int m) (text t) p = refl
tied (int l) (text s) z p = grind arith
tied (text r) (int m) z p = grind arith
tied (text r) (text s) (int n) p = refl
tied (text r) (text s) (text t) p = nat_list_cmp_total.congr r s t p

pub cells_total : IsTotalOrder cell_cmp
cells_total = record { antisymm = turned; trans = passed; congr = tied }

pub rows_total : IsTotalOrder row_cmp
rows_total = lists_total cells_total

then_parts : (r s : Ordering) → ordering_then r s ≡ Equal → (r ≡ Equal) × (s ≡ Equal)
then_parts Less s e = cc
then_parts Equal s e = (refl, e)
then_parts Greater s e = cc

same_cell : (x y : Cell) → cell_cmp x y ≡ Equal → x ≡ y
same_cell (int m) (int n) e = ap int (subst (λ (o : Ordering). MatchOrdering o (m < n) (m ≡ n) (n < m)) e (ranks m n))
same_cell (int m) (text t) e = cc
same_cell (text s) (int n) e = cc
same_cell (text s) (text t) e = ap text (same_text s t (sym (texts_ties s t ∙ ap is_eq e)))

same_by : (a b : Row) → row_cmp a b ≡ Equal → a ≡ b
same_by [] [] e = refl
same_by [] (y ∷ b) e = cc
same_by (x ∷ a) [] e = cc
same_by (x ∷ a) (y ∷ b) e =
    let p = then_parts (cell_cmp x y) (row_cmp a b) e in
    ap₂ (λ (c : Cell) (r : Row). c ∷ r) (same_cell x y p.0) (same_by a b p.1)

equal_is : (r : Ordering) → is_eq r ≡ true → r ≡ Equal
equal_is Less e = cc
equal_is Equal e = refl
equal_is Greater e = cc

pub same_row : (a b : Row) → eq_by_cmp row_cmp a b ≡ true → a ≡ b
same_row a b e = same_by a b (equal_is _ e)

-- column by column ----------------------------------------------------------------------------------------------

pub cells-assoc : (by : List Named) (a b c : Row) → cells_combined by (cells_combined by a b) c ≡ cells_combined by a (cells_combined by b c)
cells-assoc [] a b c = refl
cells-assoc (by ∷ more) [] b c = refl
cells-assoc (by ∷ more) (x ∷ a) [] c = refl
cells-assoc (by ∷ more) (x ∷ a) (y ∷ b) [] = refl
cells-assoc (by ∷ more) (x ∷ a) (y ∷ b) (z ∷ c) = ap₂ (λ (e : Cell) (r : Row). e ∷ r) (combined-assoc by x y z) (cells-assoc more a b c)

pub cells-comm : (by : List Named) → AllByRecursion (λ r. commuting r ≡ true) by → (a b : Row) → cells_combined by a b ≡ cells_combined by b a
cells-comm [] all a b = refl
cells-comm (by ∷ more) all [] [] = refl
cells-comm (by ∷ more) all [] (y ∷ b) = refl
cells-comm (by ∷ more) all (x ∷ a) [] = refl
cells-comm (by ∷ more) all (x ∷ a) (y ∷ b) = ap₂ (λ (e : Cell) (r : Row). e ∷ r) (combined-comm by all.0 x y) (cells-comm more all.1 a b)

-- the rests of a key --------------------------------------------------------------------------------------------

pub rests-append : (k : ℕ) (key : Row) (xs ys : List Row) → rests k key (xs ++ ys) ≡ rests k key xs ++ rests k key ys
rests-append k key xs ys =
    ap (map (drop k)) (filter-append (has_key k key) xs ys) ∙ map-append (drop k) (filter (has_key k key) xs) (filter (has_key k key) ys)

module _ {X : Type 0} (p : X → Bool) where
  kept-skip : (b : Bool) (x : X) (xs ys : List X) → IsPermutation (filter p xs) (filter p ys) → IsPermutation (cond b (x ∷ filter p xs) (filter p xs)) (cond b (x ∷ filter p ys) (filter p ys))
  kept-skip true x xs ys h = IsPermutation-cons x _ _ h
  kept-skip false x xs ys h = h

  kept-turn : (b c : Bool) (x y : X) (l : List X) → IsPermutation (cond b (x ∷ cond c (y ∷ l) l) (cond c (y ∷ l) l)) (cond c (y ∷ cond b (x ∷ l) l) (cond b (x ∷ l) l))
  kept-turn true true x y l = IsPermutation-append_left l (x ∷ y ∷ []) (y ∷ x ∷ []) (IsPermutation-append_comm (x ∷ []) (y ∷ []))
  kept-turn true false x y l = IsPermutation-refl (x ∷ l)
  kept-turn false true x y l = IsPermutation-refl (y ∷ l)
  kept-turn false false x y l = IsPermutation-refl l

  pub kept-permutation : (xs ys : List X) → IsPermutation xs ys → IsPermutation (filter p xs) (filter p ys)
  kept-permutation = along_permutation (λ xs ys. IsPermutation (filter p xs) (filter p ys))
      (λ xs. IsPermutation-refl (filter p xs))
      (λ x xs ys h. kept-skip (p x) x xs ys h)
      (λ x y xs. kept-turn (p x) (p y) x y (filter p xs))
      (λ xs ys zs h k. IsPermutation-trans _ _ _ h k)

pub rests-permutation : (k : ℕ) (key : Row) (xs ys : List Row) → IsPermutation xs ys → IsPermutation (rests k key xs) (rests k key ys)
rests-permutation k key xs ys h = IsPermutation-map (drop k) _ _ (kept-permutation (has_key k key) xs ys h)

-- what a list of at most one comes to
folded-one : {X : Type 0} (f : X → X → X) (o : Option X) → folded f (one_or_none o) ≡ o
folded-one f None = refl
folded-one f (Some x) = refl

one-moved : {X : Type 0} (o : Option X) (ys : List X) → IsPermutation (one_or_none o) ys → ys ≡ one_or_none o
one-moved {X} o ys h = along_permutation (λ (xs : List X) (zs : List X). length xs ≤ 1 → zs ≡ xs) (λ xs l. refl)
    (λ x xs zs e l. ap (λ (t : List X). x ∷ t) (e (omega arith))) (λ x y xs l. absurd (omega arith))
    (λ xs zs ws e g l. let same = e l in g (subst (λ (t : List X). length t ≤ 1) (sym same) l) ∙ same) _ ys h (short o)
  where
    short : (o : Option X) → length (one_or_none o) ≤ 1
    short None = omega arith
    short (Some x) = omega arith

-- one row more -------------------------------------------------------------------------------------------------

combined-key : (k : ℕ) (by : List Named) (l r : Row) → key_of k (row_combined k by l r) ≡ key_of k l
combined-key zero by l r = refl
combined-key (suc k) by [] r = refl
combined-key (suc k) by (x ∷ l) r = ap (λ (t : Row). x ∷ t) (combined-key k by l (drop 1 r))

no_cells : (by : List Named) → cells_combined by [] [] ≡ []
no_cells [] = refl
no_cells (by ∷ more) = refl

combined-rest : (k : ℕ) (by : List Named) (l r : Row) → key_of k l ≡ key_of k r → drop k (row_combined k by l r) ≡ cells_combined by (drop k l) (drop k r)
combined-rest zero by l r e = refl
combined-rest (suc k) by [] [] e = sym (no_cells by)
combined-rest (suc k) by [] (y ∷ r) e = cc
combined-rest (suc k) by (x ∷ l) [] e = cc
combined-rest (suc k) by (x ∷ l) (y ∷ r) e = combined-rest k by l r (ap (drop 1) e)

-- the further columns of one more row, put to those of its key
abbrev put : (Row → Row → Row) → List Row → Row → List Row
put f [] r = r ∷ []
put f (l ∷ ls) r = f l r ∷ ls

put-folded : (f : Row → Row → Row) (xs : List Row) (r : Row) → put f (one_or_none (folded f xs)) r ≡ one_or_none (folded f (xs ++ r ∷ []))
put-folded f [] r = refl
put-folded f (x ∷ xs) r = ap (λ (t : Row). t ∷ []) (sym (fold-append f x xs (r ∷ [])))

module _ (k : ℕ) (by : List Named) (key row : Row) where
  -- at the row's key
  rests-here : has_key k key row ≡ true → (out : List Row) → rests k key (with_row k by out row) ≡ put (cells_combined by) (rests k key out) (drop k row)
  rests-here e [] = rw e refl
  rests-here e (r ∷ out) = by_test (rests-here e out) (has_key k (key_of k row) r) refl
    where
      same : key_of k row ≡ key
      same = same_row _ _ e

      by_test : rests k key (with_row k by out row) ≡ put (cells_combined by) (rests k key out) (drop k row)
          → (b : Bool) → has_key k (key_of k row) r ≡ b → rests k key (with_row k by (r ∷ out) row) ≡ put (cells_combined by) (rests k key (r ∷ out)) (drop k row)
      by_test more true t =
          let here : has_key k key r ≡ true = subst (λ (z : Row). has_key k z r ≡ true) same t in
          let kept : has_key k key (row_combined k by r row) ≡ true = ap (λ (z : Row). eq_by_cmp row_cmp z key) (combined-key k by r row) ∙ here in
          rw (t, kept, here) (ap (λ (z : Row). z ∷ rests k key out) (combined-rest k by r row (same_row _ _ t)))
      by_test more false t =
          let here : has_key k key r ≡ false = subst (λ (z : Row). has_key k z r ≡ false) same t in
          rw (t, here) more

  -- at another key
  rests-there : has_key k key row ≡ false → (out : List Row) → rests k key (with_row k by out row) ≡ rests k key out
  rests-there e [] = rw e refl
  rests-there e (r ∷ out) = by_test (rests-there e out) (has_key k (key_of k row) r) refl
    where
      by_test : rests k key (with_row k by out row) ≡ rests k key out
          → (b : Bool) → has_key k (key_of k row) r ≡ b → rests k key (with_row k by (r ∷ out) row) ≡ rests k key (r ∷ out)
      by_test more true t =
          let away : has_key k key r ≡ false = ap (λ (z : Row). eq_by_cmp row_cmp z key) (same_row _ _ t) ∙ e in
          let kept : has_key k key (row_combined k by r row) ≡ false = ap (λ (z : Row). eq_by_cmp row_cmp z key) (combined-key k by r row) ∙ away in
          rw (t, kept, away) refl
      by_test more false t = at (has_key k key r) refl
        where
          at : (b : Bool) → has_key k key r ≡ b → rests k key (with_row k by (r ∷ out) row) ≡ rests k key (r ∷ out)
          at true h = rw (t, h) (ap (λ (z : List Row). drop k r ∷ z) more)
          at false h = rw (t, h) more

pub reduces_more : ReducesMore
reduces_more k by rows out row h key = at (has_key k key row) refl
  where
    f : Row → Row → Row
    f = cells_combined by

    at : (b : Bool) → has_key k key row ≡ b → rests k key (with_row k by out row) ≡ one_or_none (folded f (rests k key (rows ++ row ∷ [])))
    at true e =
        let one : rests k key (row ∷ []) ≡ drop k row ∷ [] = rw e refl in
        rests-here k by key row e out ∙ ap (λ (z : List Row). put f z (drop k row)) (h key)
        ∙ put-folded f (rests k key rows) (drop k row)
        ∙ ap (λ (z : List Row). one_or_none (folded f z)) (ap (λ (z : List Row). rests k key rows ++ z) (sym one) ∙ sym (rests-append k key rows (row ∷ [])))
    at false e =
        let none : rests k key (row ∷ []) ≡ [] = rw e refl in
        rests-there k by key row e out ∙ h key
        ∙ ap (λ (z : List Row). one_or_none (folded f z)) (sym (append-nil (rests k key rows)) ∙ ap (λ (z : List Row). rests k key rows ++ z) (sym none) ∙ sym (rests-append k key rows (row ∷ [])))

pub reduces_parts : ReducesParts
reduces_parts k by rows more one other out h g j key =
    let f = cells_combined by in
    let both : rests k key (one ++ other) ≡ one_or_none (folded f (rests k key rows)) ++ one_or_none (folded f (rests k key more)) =
    rests-append k key one other ∙ ap₂ (λ (a : List Row) (b : List Row). a ++ b) (h key) (g key) in
    let whole : folded f (rests k key (one ++ other)) ≡ folded f (rests k key (rows ++ more)) =
    ap (folded f) both ∙ folded-append f (cells-assoc by) _ _
    ∙ ap₂ (joined f) (folded-one f (folded f (rests k key rows))) (folded-one f (folded f (rests k key more)))
    ∙ sym (folded-append f (cells-assoc by) (rests k key rows) (rests k key more))
    ∙ ap (folded f) (sym (rests-append k key rows more)) in
    j key ∙ ap one_or_none whole

pub reduces_in_any_order : ReducesInAnyOrder
reduces_in_any_order k by rows moved out all h g key =
    g key ∙ ap one_or_none (folded-permutation (cells_combined by) (cells-assoc by) (cells-comm by all) _ _ (rests-permutation k key rows moved h))

pub reduces_to_any_order : ReducesToAnyOrder
reduces_to_any_order k by rows out moved h g key =
    one-moved (folded (cells_combined by) (rests k key rows)) (rests k key moved) (subst (λ (z : List Row). IsPermutation z (rests k key moved)) (g key) (rests-permutation k key out moved h))

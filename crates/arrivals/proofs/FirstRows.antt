-- The first row, by rank, of the rows of all senders.
use Rattle.std.proofs.Common.{◌≡◌, ℕ, zero, suc, ◌<◌, List, [], ◌∷◌, ◌++◌, length, refl, sym, ap, ◌∙◌, subst, arith, length-append, append-nil, append_assoc, inl, inr}
use Rattle.std.specs.Prelude.{All, ◌⊎◌, true, slice_index_or, slice_set}
use Rattle.std.proofs.lemmas.Bool.Decides.{eqb_tells}
use Rattle.std.proofs.lemmas.List.{get_or-set_other}
use Rattle.std.proofs.lemmas.List.Elements.{All-nil, All-cons, All-head, All-tail, All-append, All-set}
use Rattle.row_defs.specs.declared.kind.Kind.{Kind}
use Rattle.row_defs.specs.Rows.{Row}
use Rattle.block_pool.specs.Handles.{PoolName, HandValue}
use Rattle.dia_item.proofs.RowLemmas.{kinds_are}
use Rattle.dia_file.specs.Encoding.{spelled, encoded, AreOf}
use Rattle.dia_file.proofs.WriterLemmas.{row_some}
use Rattle.lop_chain.specs.Rows.{IsRowOf}
use Rattle.mix_stream.specs.Reading.{Reading, IsSame, IsDone, IsDamaged, bytes_of}
use Rattle.mix_stream.proofs.Rows.{come_in_order, not_damage}
use Rattle.arrivals.specs.Boxes.{HasLeft, joined}
use Rattle.arrivals.specs.Steps.{IsFirst}
use Rattle.arrivals.specs.Receives.{ComeFirst, GivesRows, AreAllRows}

abbrev list_of : List (List Row) → ℕ → List Row
list_of lists k = slice_index_or lists k []

some_or_none : (rows : List Row) → (rows ≡ []) ⊎ ((first : Row) × (rest : List Row) × (rows ≡ first ∷ rest))
some_or_none [] = inl refl
some_or_none (first ∷ rest) = inr (first, rest, refl)

-- the list of one sender
pub list_are : (kinds : List Kind) (lists : List (List Row)) (k : ℕ) → All (AreOf kinds) lists → AreOf kinds (list_of lists k)
list_are kinds [] k all = tt
list_are kinds (list ∷ lists) zero all = All-head (AreOf kinds) list lists all
list_are kinds (list ∷ lists) (suc k) all = list_are kinds lists k (All-tail (AreOf kinds) list lists all)

set_here : (lists : List (List Row)) (k : ℕ) (first : Row) (rows : List Row) → list_of lists k ≡ first ∷ rows → list_of (slice_set lists k rows) k ≡ rows
set_here [] k first rows is = cc
set_here (list ∷ lists) zero first rows is = refl
set_here (list ∷ lists) (suc k) first rows is = set_here lists k first rows is

-- no bytes, no rows
no_rows : (kinds : List Kind) (rows : List Row) → 0 < length kinds → AreOf kinds rows → encoded rows ≡ [] → rows ≡ []
no_rows kinds [] some are none = refl
no_rows kinds (row ∷ rows) some are none =
    let long = row_some kinds (spelled row) row some are.0 in
    let whole = length-append (spelled row) (encoded rows) in
    let no : length (spelled row ++ encoded rows) ≡ 0 = ap length none in
    absurd (omega (arith, long, whole, no))

none_joined : (lists : List (List Row)) → ((k : ℕ) → list_of lists k ≡ []) → joined lists ≡ []
none_joined [] none = refl
none_joined (list ∷ lists) none = ap (λ (l : List Row). l ++ joined lists) (none 0) ∙ none_joined lists (λ k. none (suc k))

-- the first row of the lowest sender that has one
first_out : (lists : List (List Row)) (k : ℕ) (first : Row) (rows : List Row) → list_of lists k ≡ first ∷ rows → ((j : ℕ) → j < k → list_of lists j ≡ []) → joined lists ≡ first ∷ joined (slice_set lists k rows)
first_out [] k first rows is lower = cc
first_out (list ∷ lists) zero first rows is lower = ap (λ (l : List Row). l ++ joined lists) is
first_out (list ∷ lists) (suc k) first rows is lower =
    let here : list ≡ [] = lower 0 (omega arith) in
    let rest = first_out lists k first rows is (λ j less. lower (suc j) (omega arith)) in
    ap (λ (l : List Row). l ++ joined lists) here ∙ rest ∙ sym (first_set list lists k first rows here)
  where
    first_set : (list : List Row) (lists : List (List Row)) (k : ℕ) (first : Row) (rows : List Row) → list ≡ [] → first ∷ (list ++ joined (slice_set lists k rows)) ≡ first ∷ joined (slice_set lists k rows)
    first_set list lists k first rows none = ap (λ (l : List Row). first ∷ (l ++ joined (slice_set lists k rows))) none

-- rows that are read
pub gives_none : (pool : PoolName) (r q : Reading) → q.kinds ≡ r.kinds → IsSame pool r q → GivesRows pool r.kinds (HasLeft r) [] q
gives_none pool r q kinds same = record {
  are = All-nil (IsRowOf r.kinds);
  told = λ tells lists holds. record {
    rest = lists;
    left_is = record {
      are = subst (λ (ks : List Kind). All (AreOf ks) lists) (sym kinds) holds.are;
      bytes = λ k. (same k).told tells ∙ holds.bytes k;
    };
    parts = refl;
  };
}

pub gives_start : (pool : PoolName) (r : Reading) → GivesRows pool r.kinds (HasLeft r) [] r
gives_start pool r = record {
  are = All-nil (IsRowOf r.kinds);
  told = λ tells lists holds. record { rest = lists; left_is = holds; parts = refl };
}

-- of known lists, a row comes first
module _ (r q : Reading) (a : HandValue) (row : Row) (some : 0 < length r.kinds) (kinds : q.kinds ≡ r.kinds) (is : IsFirst r a row q) where
  comes_first : a.pool.opening.tells ≡ true → (lists : List (List Row)) → HasLeft r lists → ComeFirst lists (row ∷ []) q
  comes_first tells lists holds =
      let k = q.from in
      let next = is.next in
      let read : spelled row ++ bytes_of k q ≡ bytes_of k r = next.read.told tells in
      elim (some_or_none (list_of lists k)) [
        | inl none ↦
            let long = row_some r.kinds (spelled row) row some next.is_row in
            let empty : spelled row ++ bytes_of k q ≡ [] = read ∙ holds.bytes k ∙ ap encoded none in
            let whole = length-append (spelled row) (bytes_of k q) in
            let no : length (spelled row ++ bytes_of k q) ≡ 0 = ap length empty in
            absurd (omega (arith, long, whole, no))
        | inr there ↦
            let first = there.0 in
            let rows = there.1 in
            let list : list_of lists k ≡ first ∷ rows = there.2 in
            let are : AreOf r.kinds (first ∷ rows) = subst (AreOf r.kinds) list (list_are r.kinds lists k holds.are) in
            let order = come_in_order a.pool k row first rows r q tells next are (holds.bytes k ∙ ap encoded list) in
            let rest = slice_set lists k rows in
            record {
              rest = rest;
              left_is = record {
                are = subst (λ (ks : List Kind). All (AreOf ks) rest) (sym kinds) (All-set (AreOf r.kinds) lists k rows are.1 holds.are);
                bytes = λ j. elim (eqb_tells j k) [
                  | inl same ↦ ap (λ i. bytes_of i q) same.1 ∙ order.1 ∙ ap encoded (sym (set_here lists k first rows list)) ∙ ap (λ i. encoded (list_of rest i)) (sym same.1)
                  | inr other ↦ (next.others j other.1).told tells ∙ holds.bytes j ∙ ap encoded (sym (get_or-set_other lists k j rows [] other.1))
                ];
              };
              parts = first_out lists k first rows list (λ j less. no_rows r.kinds (list_of lists j) some (list_are r.kinds lists j holds.are) (sym (holds.bytes j) ∙ is.lower j less))
                  ∙ ap (λ (x : Row). x ∷ joined rest) (sym order.0);
            }
      ]

  pub gives_one : GivesRows a.pool r.kinds (HasLeft r) (row ∷ []) q
  gives_one = record {
    are = All-cons (IsRowOf r.kinds) row [] (kinds_are r.kinds (spelled row) row is.next.is_row) (All-nil (IsRowOf r.kinds));
    told = comes_first;
  }

pub gives_more : (pool : PoolName) (kinds : List Kind) (held : List (List Row) → Type 0) (r q : Reading) (xs ys : List Row) → r.kinds ≡ kinds
    → GivesRows pool kinds held xs r → GivesRows pool r.kinds (HasLeft r) ys q → GivesRows pool kinds held (xs ++ ys) q
gives_more pool kinds held r q xs ys same p then = record {
  are = All-append (IsRowOf kinds) xs ys p.are (subst (λ (ks : List Kind). All (IsRowOf ks) ys) same then.are);
  told = λ tells lists holds.
      let one = p.told tells lists holds in
      let two = then.told tells one.rest one.left_is in
      record { rest = two.rest; left_is = two.left_is; parts = one.parts ∙ ap (λ rows. xs ++ rows) two.parts ∙ sym (append_assoc xs ys (joined two.rest)) };
}

-- where nothing is left, these were all rows
pub all_rows : (pool : PoolName) (kinds : List Kind) (held : List (List Row) → Type 0) (q : Reading) (rows : List Row) → 0 < length q.kinds
    → GivesRows pool kinds held rows q → IsDone q → AreAllRows pool kinds held rows
all_rows pool kinds held q rows some p none = record {
  are = p.are;
  told = λ tells lists holds.
      let come = p.told tells lists holds in
      let left : joined come.rest ≡ [] = none_joined come.rest (λ k. no_rows q.kinds (list_of come.rest k) some (list_are q.kinds come.rest k come.left_is.are) (sym (come.left_is.bytes k) ∙ none.bytes k)) in
      sym (come.parts ∙ ap (λ l. rows ++ l) left ∙ append-nil rows);
}

-- rows are never damage
pub undamaged : (pool : PoolName) (kinds : List Kind) (held : List (List Row) → Type 0) (r : Reading) (rows : List Row) → GivesRows pool kinds held rows r
    → (pool.opening.tells ≡ true → IsDamaged r) → pool.opening.tells ≡ true → (lists : List (List Row)) → held lists → ⊥
undamaged pool kinds held r rows p damaged tells lists holds =
    let come = p.told tells lists holds in
    not_damage r (λ k. (list_of come.rest k, list_are r.kinds come.rest k come.left_is.are, come.left_is.bytes k)) (damaged tells)

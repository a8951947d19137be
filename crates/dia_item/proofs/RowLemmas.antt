-- A row that is read is the row that was written.
use Rattle.std.proofs.Common.{◌≡◌, ℕ, ◌+◌, ◌≤◌, List, [], ◌∷◌, ◌++◌, length, take, drop, suc, Option, Some, None, IfSome, get_or, refl, sym, ap, subst, ◌∙◌, append_assoc, append-nil, length-append, arith}
use Rattle.std.proofs.lemmas.List.{take_at, drop_at, take-append-drop}
use Rattle.std.proofs.Math.Seq.{take-add}
use Rattle.row_defs.specs.declared.kind.Kind.{Kind}
use Rattle.row_defs.specs.declared.kind.Kind.TheVariants.{Int, Text}
use Rattle.row_defs.specs.Rows.{Cell, int, text, kind_of, kinds_of, Row, IsField, IsRow}
use Rattle.dia_item.specs.Reading.{cell_len, cell_at, row_of}
use Rattle.dia_item.proofs.Fields.{field_reads}

-- the parts of a row at the beginning of the bytes
parts_of : (n : ℕ) (bytes first rest : List ℕ) → take n bytes ≡ first ++ rest → bytes ≡ first ++ (rest ++ drop n bytes)
parts_of n bytes first rest e = sym (take-append-drop n bytes) ∙ ap (λ (xs : List ℕ). xs ++ drop n bytes) e ∙ append_assoc first rest (drop n bytes)

pub row_found :
    (kind : Kind) (kinds : List Kind) (bytes : List ℕ) (f m : ℕ)
    → f ≡ cell_len kind bytes → IsField kind (take f bytes) (cell_at kind bytes) → IsRow kinds (take m (drop f bytes)) (row_of kinds (drop f bytes))
    → IsRow (kind ∷ kinds) (take (f + m) bytes) (row_of (kind ∷ kinds) bytes)
unfolding row_of
row_found kind kinds bytes f m e field rest =
    (cell_at kind bytes, row_of kinds (drop f bytes), take f bytes, take m (drop f bytes), field, rest, rw (← e) refl, take-add f m bytes)

pub no_prefix :
    (kind : Kind) (kinds : List Kind) (bytes : List ℕ)
    → ((cell : Cell) (n : ℕ) → IsField kind (take n bytes) cell → ⊥)
    → (row : Row) (n : ℕ) → IsRow (kind ∷ kinds) (take n bytes) row → ⊥
no_prefix kind kinds bytes none row n h =
    let e : bytes ≡ h.2 ++ (h.3 ++ drop n bytes) = parts_of n bytes h.2 h.3 h.7 in
    let prefix : take (length h.2) bytes ≡ h.2 = ap (λ (xs : List ℕ). take (length h.2) xs) e ∙ take_at h.2 (h.3 ++ drop n bytes) (length h.2) refl in
    let P : List ℕ → Type 0 = λ xs. IsField kind xs h.0 in
    none h.0 (length h.2) (subst P (sym prefix) h.4)

pub no_back :
    (kind : Kind) (kinds : List Kind) (bytes : List ℕ) (f : ℕ)
    → f ≡ cell_len kind bytes
    → ((row : Row) (n : ℕ) → IsRow kinds (take n (drop f bytes)) row → ⊥)
    → (row : Row) (n : ℕ) → IsRow (kind ∷ kinds) (take n bytes) row → ⊥
no_back kind kinds bytes f is none row n h =
    let e : bytes ≡ h.2 ++ (h.3 ++ drop n bytes) = parts_of n bytes h.2 h.3 h.7 in
    let reads = field_reads kind h.2 (h.3 ++ drop n bytes) h.0 h.4 in
    let len : f ≡ length h.2 = is ∙ ap (cell_len kind) e ∙ reads.len in
    let back : drop f bytes ≡ h.3 ++ drop n bytes = ap (λ (xs : List ℕ). drop f xs) e ∙ drop_at h.2 (h.3 ++ drop n bytes) f (sym len) in
    let prefix : take (length h.3) (drop f bytes) ≡ h.3 = ap (λ (xs : List ℕ). take (length h.3) xs) back ∙ take_at h.3 (drop n bytes) (length h.3) refl in
    let P : List ℕ → Type 0 = λ xs. IsRow kinds xs h.1 in
    none h.1 (length h.3) (subst P (sym prefix) h.5)

-- what spells a row is read as this row, whatever follows it
pub row_reads : (kinds : List Kind) (bytes rest : List ℕ) (row : Row) → IsRow kinds bytes row → row_of kinds (bytes ++ rest) ≡ row
unfolding row_of
row_reads [] bytes rest row h = sym h.1
row_reads (kind ∷ kinds) bytes rest row h =
    let e : bytes ++ rest ≡ h.2 ++ (h.3 ++ rest) = ap (λ (xs : List ℕ). xs ++ rest) h.7 ∙ append_assoc h.2 h.3 rest in
    let reads = field_reads kind h.2 (h.3 ++ rest) h.0 h.4 in
    let back : drop (cell_len kind (h.2 ++ (h.3 ++ rest))) (h.2 ++ (h.3 ++ rest)) ≡ h.3 ++ rest = drop_at h.2 (h.3 ++ rest) _ (sym reads.len) in
    rw (e, reads.value, back, row_reads kinds h.3 rest h.1 h.5) (sym h.6)

pub no_kinds : (kinds : List Kind) (bytes : List ℕ) → length kinds ≡ 0 → IsRow kinds [] (row_of kinds bytes)
unfolding row_of
no_kinds [] bytes e = (refl, refl)
no_kinds (kind ∷ kinds) bytes e = absurd (omega arith)

pub row_is : (kinds : List Kind) (bytes : List ℕ) (row : Row) → IsRow kinds bytes row → row_of kinds bytes ≡ row
row_is kinds bytes row h = ap (row_of kinds) (sym (append-nil bytes)) ∙ row_reads kinds bytes [] row h

kind_is : (kind : Kind) (bytes : List ℕ) (cell : Cell) → IsField kind bytes cell → kind_of cell ≡ kind
kind_is Int bytes (int n) f = refl
kind_is Int bytes (text t) f = absurd f
kind_is Text bytes (int n) f = absurd f
kind_is Text bytes (text t) f = refl

pub kinds_are : (kinds : List Kind) (bytes : List ℕ) (row : Row) → IsRow kinds bytes row → kinds_of row ≡ kinds
kinds_are [] bytes row h = rw h.1 refl
kinds_are (kind ∷ kinds) bytes row h = rw (h.6, kind_is kind h.2 h.0 h.4, kinds_are kinds h.3 h.1 h.5) refl

pub length-row_of : (kinds : List Kind) (bytes : List ℕ) → length (row_of kinds bytes) ≡ length kinds
unfolding row_of
length-row_of [] bytes = refl
length-row_of (kind ∷ kinds) bytes = ap suc (length-row_of kinds (drop (cell_len kind bytes) bytes))

-- the first field of a row, and the others
pub record Prefix (kind : Kind) (kinds : List Kind) (bytes : List ℕ) : Type 0 where
  pub len : cell_len kind bytes ≤ length bytes
  pub field : IsField kind (take (cell_len kind bytes) bytes) (cell_at kind bytes)
  pub rest : IsRow kinds (drop (cell_len kind bytes) bytes) (row_of kinds (drop (cell_len kind bytes) bytes))

pub prefix_of : (kind : Kind) (kinds : List Kind) (bytes : List ℕ) (row : Row) → IsRow (kind ∷ kinds) bytes row → Prefix kind kinds bytes
prefix_of kind kinds bytes row h =
    let reads = field_reads kind h.2 h.3 h.0 h.4 in
    let len : cell_len kind bytes ≡ length h.2 = ap (cell_len kind) h.7 ∙ reads.len in
    let value : cell_at kind bytes ≡ h.0 = ap (cell_at kind) h.7 ∙ reads.value in
    let prefix : take (cell_len kind bytes) bytes ≡ h.2 = ap (λ (xs : List ℕ). take (cell_len kind bytes) xs) h.7 ∙ take_at h.2 h.3 _ (sym len) in
    let back : drop (cell_len kind bytes) bytes ≡ h.3 = ap (λ (xs : List ℕ). drop (cell_len kind bytes) xs) h.7 ∙ drop_at h.2 h.3 _ (sym len) in
    record {
      len = omega (arith, len, ap length h.7, length-append h.2 h.3);
      field = rw (prefix, value) h.4;
      rest = rw (back, row_is kinds h.3 h.1 h.5) h.5;
    }

pub prefix_is_row : (kinds : List Kind) (bytes : List ℕ) (n : ℕ) → IsRow kinds (take n bytes) (row_of kinds bytes) → IsRow kinds (take n bytes) (row_of kinds (take n bytes))
prefix_is_row kinds bytes n h = rw (row_is kinds (take n bytes) (row_of kinds bytes) h) h

one_kind : (kinds : List Kind) → length kinds ≡ 1 → kinds ≡ get_or kinds 0 Int ∷ []
one_kind [] e = absurd (omega arith)
one_kind (kind ∷ []) e = refl
one_kind (kind ∷ other ∷ kinds) e = absurd (omega arith)

only_row :
    (kind : Kind) (bytes : List ℕ) (n : ℕ) → n ≡ cell_len kind bytes → IsField kind (take n bytes) (cell_at kind bytes)
    → IsRow (kind ∷ []) (take n bytes) (row_of (kind ∷ []) bytes)
unfolding row_of
only_row kind bytes n e field = (cell_at kind bytes, [], take n bytes, [], field, (refl, refl), refl, sym (append-nil (take n bytes)))

-- a field is a row of one column
pub field_row :
    (kinds : List Kind) (bytes : List ℕ) (found : Option ℕ) → length kinds ≡ 1
    → IfSome found (λ n. (n ≤ length bytes) × (n ≡ cell_len (get_or kinds 0 Int) bytes))
    → IfSome found (λ n. IsField (get_or kinds 0 Int) (take n bytes) (cell_at (get_or kinds 0 Int) bytes))
    → IfSome found (λ n. IsRow kinds (take n bytes) (row_of kinds bytes))
field_row kinds bytes None one len field = tt
field_row kinds bytes (Some n) one len field =
    let Is : List Kind → Type 0 = λ ks. IsRow ks (take n bytes) (row_of ks bytes) in
    subst Is (sym (one_kind kinds one)) (only_row (get_or kinds 0 Int) bytes n len.1 field)

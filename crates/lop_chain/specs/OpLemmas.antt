-- The rows that local lines make have their kinds.
use Rattle.std.proofs.Common.{◌≡◌, ℕ, zero, suc, ◌==◌, Bool, true, false, if◌then◌else◌, List, [], ◌∷◌, map, slice_get, slice_set, Option, Some, None, IsSome, refl, sym, ap, subst, ◌∙◌}
use Rattle.std.specs.List.{flat_map, filter_map, cons_option, AllByRecursion, range_with_len}
use Rattle.row_defs.specs.declared.kind.Kind.{Kind}
use Rattle.row_defs.specs.declared.kind.Kind.TheVariants.{Int, Text}
use Rattle.row_defs.specs.Rows.{Cell, text, Row, kind_of, kinds_of}
use Rattle.row_defs.specs.Texts.{words_in_text}
use Rattle.row_defs.specs.Values.{Expr, column, expr_kind, value_of, number_in, bytes_in}
use Rattle.row_defs.specs.LocalOps.{LocalOp, map_op, filter_op, words_op, spread_op, with_word, raised, rows_made, rows_through, HaveKinds, IsSoundOp, op_kinds, AreSoundOps}
use Rattle.dia_expr.proofs.ValueLemmas.{value_kind-from}
use Rattle.lop_chain.specs.Rows.{Kinds, IsRowOf}
use Rattle.lop_chain.specs.Then.{all-append}
use Rattle.lop_chain.specs.Ops.{values_of}

some_kind : (o : Option Kind) → IsSome o → (kind : Kind) × (o ≡ Some kind)
some_kind None some = cc
some_kind (Some kind) some = (kind, refl)

value_kind : (row : Row) (e : Expr) → IsSome (expr_kind (kinds_of row) e) → expr_kind (kinds_of row) e ≡ Some (kind_of (value_of e row))
value_kind row e some =
    let is = some_kind (expr_kind (kinds_of row) e) some in
    is.1 ∙ ap Some (sym (value_kind-from row e is.0 is.1))

-- the values of expressions that have kinds are of these kinds
pub values_kinds : (row : Row) (exprs : List Expr) → HaveKinds (kinds_of row) exprs → kinds_of (values_of exprs row) ≡ filter_map (expr_kind (kinds_of row)) exprs
values_kinds row [] have = refl
values_kinds row (e ∷ exprs) have =
    ap (λ (ks : List Kind). kind_of (value_of e row) ∷ ks) (values_kinds row exprs have.1)
    ∙ ap (λ (o : Option Kind). cons_option o (filter_map (expr_kind (kinds_of row)) exprs)) (sym (value_kind row e have.0))

-- a field of the same kind leaves the kinds
pub kinds_of_set : (row : Row) (c : ℕ) (cell : Cell) → slice_get (kinds_of row) c ≡ Some (kind_of cell) → kinds_of (slice_set row c cell) ≡ kinds_of row
kinds_of_set [] c cell e = refl
kinds_of_set (x ∷ row) zero cell e = let k : kind_of x ≡ kind_of cell = cc in ap (λ (kind : Kind). kind ∷ kinds_of row) (sym k)
kinds_of_set (x ∷ row) (suc c) cell e = ap (λ (kinds : Kinds). kind_of x ∷ kinds) (kinds_of_set row c cell e)

all_if : (kinds : Kinds) (row : Row) (b : Bool) → IsRowOf kinds row → AllByRecursion (IsRowOf kinds) (if b then [] else row ∷ [])
all_if kinds row true h = tt
all_if kinds row false h = (h, tt)

all_raised : (row : Row) (c : ℕ) (numbers : List ℕ) → slice_get (kinds_of row) c ≡ Some Int → AllByRecursion (IsRowOf (kinds_of row)) (map (raised row c) numbers)
all_raised row c [] e = tt
all_raised row c (n ∷ numbers) e = (kinds_of_set row c _ e, all_raised row c numbers e)

all_worded : (row : Row) (c : ℕ) (words : List (List ℕ)) → slice_get (kinds_of row) c ≡ Some Text → AllByRecursion (IsRowOf (kinds_of row)) (map (with_word row c) words)
all_worded row c [] e = tt
all_worded row c (w ∷ words) e = (kinds_of_set row c (text w) e, all_worded row c words e)

made_of_kinds : (op : LocalOp) (row : Row) → IsSoundOp (kinds_of row) op → AllByRecursion (IsRowOf (op_kinds (kinds_of row) op)) (rows_made op row)
made_of_kinds (map_op exprs) row h = (values_kinds row exprs h.0, tt)
made_of_kinds (filter_op e) row h = all_if (kinds_of row) row (number_in (value_of e row) == 0) refl
made_of_kinds (words_op c) row h = all_worded row c (words_in_text (bytes_in (value_of (column c) row))) h
made_of_kinds (spread_op c count) row h = all_raised row c (range_with_len 0 count) h.0

all_flat :
    (between to : Kinds) (f : Row → List Row) (rows : List Row)
    → ((row : Row) → IsRowOf between row → AllByRecursion (IsRowOf to) (f row)) → AllByRecursion (IsRowOf between) rows → AllByRecursion (IsRowOf to) (flat_map f rows)
all_flat between to f [] s h = tt
all_flat between to f (row ∷ rows) s h = all-append (IsRowOf to) (f row) (flat_map f rows) (s row h.0) (all_flat between to f rows s h.1)

through_of_kinds : (ops : List LocalOp) (from to : Kinds) (row : Row) → AreSoundOps from ops to → IsRowOf from row → AllByRecursion (IsRowOf to) (rows_through ops row)
through_of_kinds [] from to row h k = (k ∙ h, tt)
through_of_kinds (op ∷ ops) from to row h k =
    let I : Kinds → Type 0 = λ ks. IsSoundOp ks op in
    let M : Kinds → Type 0 = λ ks. AllByRecursion (IsRowOf (op_kinds ks op)) (rows_made op row) in
    all_flat (op_kinds from op) to (rows_through ops) (rows_made op row) (λ r e. through_of_kinds ops (op_kinds from op) to r h.1 e) (subst M k (made_of_kinds op row (subst I (sym k) h.0)))

pub made_sound : (ops : List LocalOp) (from to : Kinds) (row : Row) (rows : List Row) → AreSoundOps from ops to → IsRowOf from row → rows ≡ rows_through ops row → AllByRecursion (IsRowOf to) rows
made_sound ops from to row rows h k e = let P : List Row → Type 0 = λ xs. AllByRecursion (IsRowOf to) xs in subst P (sym e) (through_of_kinds ops from to row h k)
